-- The winding at a square in terms of vertical edges, and the rings that these draw.
use Rattle.std.specs.Prelude.{◌≤ℤ◌, ◌-ℤ◌, ◌+ℤ◌, ℤ, ℕ, pos, cond, List, [], ◌∷◌, count_by, int_le, int_lt}
use Rattle.std.specs.Int.{int_max, int_min}
use Rattle.lvl_grid.specs.declared.point.Point.{Point}
use Rattle.lvl_grid.specs.declared.point.Square.{Square}
use Rattle.lvl_simplify.specs.Rows.{turning}
use Rattle.lvl_simplify.specs.declared.redraw.Upright.{Upright}
use Rattle.lvl_simplify.specs.declared.redraw.Edges.{Edges}
use Rattle.lvl_simplify.specs.declared.redraw.Ends.{Ends}

-- the point isn't left of the abscissa
abbrev pub NotLeftOf : ℤ → Point → Type 0
NotLeftOf left p = left ≤ℤ p.x

-- `windings` if the abscissa x is right of the square, else 0
abbrev pub if_right : Square → ℤ → ℤ → ℤ
if_right s x windings = cond (int_lt s.x x) windings (pos 0)

-- what the edge at abscissa x, from one ordinate to another, adds to the winding at the square
abbrev pub winds : Square → ℤ → ℤ → ℤ → ℤ
winds s x from to = if_right s x (pos (cond (int_le from s.y) 1 0) -ℤ pos (cond (int_le to s.y) 1 0))

-- what a list of vertical edges adds
abbrev pub winding_by : Square → List Upright → ℤ
winding_by s [] = pos 0
winding_by s (u ∷ us) = winds s u.x u.from u.to +ℤ winding_by s us

-- what all edges of a ring add: the inner ones, and those at the right border by their turns
abbrev pub edges_winding : Square → ℤ → Edges → ℤ
edges_winding s right e = winding_by s e.inner.items +ℤ if_right s right (turning s.y e.turns.items)

-- the number of ordinates that are at most y
abbrev pub count_to : ℤ → List ℤ → ℕ
count_to y zs = count_by (λ z. int_le z y) zs

-- what edges that begin and end at these ordinates add to the winding at squares of row y that are left of them
abbrev pub ends_turning : ℤ → Ends → ℤ
ends_turning y e = pos (count_to y e.begins.items) -ℤ pos (count_to y e.ends.items)

-- z clamped to the bounds
abbrev pub within : ℤ → ℤ → ℤ → ℤ
within least most z = int_max least (int_min most z)

-- the points of a tooth: from the abscissa `left` to the edge, along it, and back to `left`
abbrev pub tooth : ℤ → Upright → List Point
tooth left u =
    record { x = left; y = u.from } ∷ record { x = u.x; y = u.from } ∷ record { x = u.x; y = u.to }
    ∷ record { x = left; y = u.to } ∷ []
