-- Points in 128 bits.
use Rattle.std.specs.Prelude.{ℕ, ◌≤◌, ◌^◌, unsigned_abs}
use Rattle.lvl_grid.specs.declared.point.Point.{Point}
use Rattle.lvl_grid.specs.declared.map.Wide.{Wide}

-- the point with these coordinates
abbrev pub as_point : Wide → Point
as_point w = record { x = w.x; y = w.y }

-- the absolute value of each coordinate is at most 2 to the power of `bits`
pub record IsSmall (bits : ℕ) (w : Wide) : Type 0 where
  pub x_small : unsigned_abs w.x ≤ 2 ^ bits
  pub y_small : unsigned_abs w.y ≤ 2 ^ bits
