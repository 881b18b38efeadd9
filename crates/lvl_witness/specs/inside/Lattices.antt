-- Lattices of shifts.
use Rattle.std.specs.Prelude.{◌≡◌, ℕ, List, pos, ◌+ℤ◌, ◌*ℤ◌}
use Rattle.lvl_grid.specs.declared.point.Point.{Point}
use Rattle.lvl_names.specs.Shifts.{lattice, IsLattice}
use Rattle.lvl_witness.specs.declared.lattice.Lattice.{Lattice}

-- the shifts are those of the lattice, in its order
pub record IsLatticeOf (shifts : List Point) (l : Lattice) : Type 0 where
  pub kept : IsLattice l.across l.columns l.up l.rows
  pub is : shifts ≡ lattice l.across l.columns l.up l.rows

-- the point after i steps from the point p
abbrev pub stepped : Point → Point → ℕ → Point
stepped p step i = record { x = (pos i *ℤ step.x) +ℤ p.x; y = (pos i *ℤ step.y) +ℤ p.y }
