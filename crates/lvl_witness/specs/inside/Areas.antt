-- Areas: which displacements move a box to where it has a square.
use Rattle.std.specs.Prelude.{◌≤ℤ◌, ◌≤◌, ◌<◌, ◌≡◌, ℤ, pos, ℕ, List, Option, Some, None, slice_get}
use Rattle.std.specs.Int.{int_min, int_max}
use Rattle.lvl_grid.specs.declared.point.Point.{Point}
use Rattle.lvl_grid.specs.Turn.{shifted}
use Rattle.lvl_flat.specs.declared.bounds.Bounds.{Bounds}
use Rattle.lvl_witness.specs.inside.Wide.{IsSmall}
use Rattle.lvl_witness.specs.declared.areas.Area.{Area}

-- the displacement is in the area, borders included
pub record IsInArea (a : Area) (e : Point) : Type 0 where
  pub left : a.low.x ≤ℤ e.x
  pub right : e.x ≤ℤ a.high.x
  pub below : a.low.y ≤ℤ e.y
  pub above : e.y ≤ℤ a.high.y

-- the displacement is in the area, if there is one
abbrev pub IsInAny : Option Area → Point → Type 0
IsInAny None e = Unit {0}
IsInAny (Some a) e = IsInArea a e

-- the box, moved by e
abbrev pub moved_box : Point → Point → Point → Bounds
moved_box low high e = record { low = shifted e low; high = shifted e high }

-- no shift with an index from `from` up to `to`, which is excluded, is in the area
abbrev pub AreApart : List Point → ℕ → ℕ → Option Area → Type 0
AreApart shifts from to area =
    (k : ℕ) (e : Point) → from ≤ k → k < to → slice_get shifts k ≡ Some e → ¬ IsInAny area e

-- the absolute value of each coordinate of both corners is at most 2 to the power of `bits`
pub record IsSmallArea (bits : ℕ) (a : Area) : Type 0 where
  pub low : IsSmall bits a.low
  pub high : IsSmall bits a.high

-- the number w is between zero and z
pub record IsOnWay (w z : ℤ) : Type 0 where
  pub low : int_min (pos 0) z ≤ℤ w
  pub high : w ≤ℤ int_max (pos 0) z
