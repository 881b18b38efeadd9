-- The winding of a ring at the squares of a column, if all points of the ring are at the borders of the column.
use Rattle.std.specs.Prelude.{◌≡◌, ◌⊎◌, ◌≤ℤ◌, ◌<ℤ◌, ◌-ℤ◌, ℤ, pos, negsuc, Bool, ◌&&◌, not, cond, List, count_by}
use Rattle.std.specs.Prelude.{int_le}
use Rattle.std.specs.Ordering.{int_eq}
use Rattle.lvl_grid.specs.declared.point.Point.{Point}
use Rattle.lvl_grid.specs.declared.point.Square.{Square}
use Rattle.lvl_grid.specs.Winding.{Edge}
use Rattle.lvl_simplify.specs.declared.rows.Turn.{Turn}

-- the square is between the two abscissas
abbrev pub IsBetween : ℤ → ℤ → Square → Type 0
IsBetween left right s = (left ≤ℤ s.x) × (s.x <ℤ right)

-- the point is at one of the two abscissas
abbrev pub IsAtBorder : ℤ → ℤ → Point → Type 0
IsAtBorder left right p = (p.x ≡ left) ⊎ (p.x ≡ right)

-- what a turn adds to the winding in the rows from its ordinate on: 1 or -1
abbrev pub change : Turn → ℤ
change t = cond t.more (pos 1) (negsuc 0)

-- the turn adds 1 in row y
abbrev pub adds : ℤ → Turn → Bool
adds y t = t.more && int_le t.y y

-- the turn takes 1 away in row y
abbrev pub takes : ℤ → Turn → Bool
takes y t = not t.more && int_le t.y y

-- the winding of a ring with these turns at the squares of row y
abbrev pub turning : ℤ → List Turn → ℤ
turning y ts = pos (count_by (adds y) ts) -ℤ pos (count_by (takes y) ts)

-- what an edge that starts at the right border adds to it: 1 in the row of its start and all above, less 1 in the row
-- of its end and all above; other edges add nothing
abbrev pub edge_turning : ℤ → ℤ → Edge → ℤ
edge_turning right y e =
    cond (int_eq e.0.x right) (pos (cond (int_le e.0.y y) 1 0) -ℤ pos (cond (int_le e.1.y y) 1 0)) (pos 0)
