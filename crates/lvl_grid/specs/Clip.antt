-- Rings clipped to a part of the grid (own rule).
use Rattle.std.specs.Prelude.{◌≡◌, ℤ, ◌<ℤ◌, ◌≤ℤ◌, List, [], take, drop, length, ◌⊎◌, ◌↔◌}
use Rattle.std.specs.Int.{int_max, int_min}
use Rattle.lvl_grid.specs.declared.point.Point.{Point}
use Rattle.lvl_grid.specs.declared.point.Square.{Square}
use Rattle.lvl_grid.specs.declared.point.Window.{Window}
use Rattle.lvl_grid.specs.declared.part.Part.{Part}
use Rattle.lvl_grid.specs.declared.part.Part.TheVariants.{Left, Right, Within}
use Rattle.lvl_grid.specs.Winding.{IsRing, Covers}

-- the number from low to high that is nearest to a, or low if high is less than low
abbrev pub clamp : ℤ → ℤ → ℤ → ℤ
clamp low high a = int_max (int_min a high) low

-- the point with each coordinate clamped to the window, whose borders x1 and y1 are included
abbrev pub clamped : Window → Point → Point
clamped w p = record { x = clamp w.x0 w.x1 p.x; y = clamp w.y0 w.y1 p.y }

-- the window has the square
pub record IsInWindow (w : Window) (s : Square) : Type 0 where
  pub x_from : w.x0 ≤ℤ s.x
  pub x_below : s.x <ℤ w.x1
  pub y_from : w.y0 ≤ℤ s.y
  pub y_below : s.y <ℤ w.y1

-- the point with each coordinate clamped to the part, whose borders are included
abbrev pub put : Part → Point → Point
put (Left at) p = record { x = int_min p.x at; y = p.y }
put (Right at) p = record { x = int_max p.x at; y = p.y }
put (Within w) p = clamped w p

-- the part has the square
abbrev pub IsIn : Part → Square → Type 0
IsIn (Left at) s = s.x <ℤ at
IsIn (Right at) s = at ≤ℤ s.x
IsIn (Within w) s = IsInWindow w s

-- the point is on the part's border or beyond it; no point is if the part is a window
abbrev pub IsBeyond : Part → Point → Type 0
IsBeyond (Left at) p = at ≤ℤ p.x
IsBeyond (Right at) p = p.x ≤ℤ at
IsBeyond (Within w) p = ⊥

-- the list `to` is `from` followed by the points of one ring or by nothing, and what follows covers exactly
-- the squares of the part that `ring` covers
pub record GoesOnByClip (part : Part) (ring from to : List Point) : Type 0 where
  pub kept : take (length from) to ≡ from
  pub more : (drop (length from) to ≡ []) ⊎ IsRing (drop (length from) to)
  pub covers : (s : Square) → Covers (drop (length from) to) s ↔ (IsIn part s × Covers ring s)
