-- Lattices of shifts, and their sums.
use Rattle.std.specs.Prelude.{◌≡◌, ◌↔◌, ◌<◌, List, Contains}
use Rattle.lvl_grid.specs.declared.point.Point.{Point}
use Rattle.lvl_grid.specs.declared.map.Map.{Map}
use Rattle.lvl_grid.specs.Turn.{turned, reflected, shifted}
use Rattle.lvl_names.specs.Shifts.{lattice}
use Rattle.lvl_changed.specs.declared.lattices.Lattice.{Lattice}

-- the shifts of the lattice
abbrev pub shifts_of : Lattice → List Point
shifts_of l = lattice l.across l.columns l.up l.rows

-- they are these, and there is at least one
pub record IsLatticeOf (shifts : List Point) (l : Lattice) : Type 0 where
  pub columns : 0 < l.columns
  pub rows : 0 < l.rows
  pub is : shifts ≡ shifts_of l

-- the displacement as the map turns it
abbrev pub turned_by : Map → Point → Point
turned_by m d = turned m.turn (reflected m.flip d)

-- each sum of a shift of the first list and one of the second as the map turns it, and nothing else
pub record AreSums (m : Map) (outer inner sums : List Point) : Type 0 where
  pub each : (f g : Point) → Contains outer f → Contains inner g → Contains sums (shifted f (turned_by m g))
  pub only : (e : Point) → Contains sums e
      → (f : Point) × (g : Point) × Contains outer f × Contains inner g × (e ≡ shifted f (turned_by m g))

-- the shifts are the others, each moved by d
abbrev pub AreMovedBy : Point → List Point → List Point → Type 0
AreMovedBy d shifts others = (e : Point) → Contains shifts e ↔ ((f : Point) × Contains others f × (e ≡ shifted d f))
