-- The box of points (own rule).
use Rattle.std.specs.Prelude.{List, map, All, Contains}
use Rattle.lvl_grid.specs.declared.point.Point.{Point}
use Rattle.lvl_names.specs.Shifts.{IsBetween}

-- the least rectangle from its lower left corner `low` to its upper right corner `high` that has all the points
pub record IsBoxOf (low high : Point) (points : List Point) : Type 0 where
  pub between : All (IsBetween low high) points
  pub left : Contains (map (λ p. p.x) points) low.x
  pub right : Contains (map (λ p. p.x) points) high.x
  pub below : Contains (map (λ p. p.y) points) low.y
  pub above : Contains (map (λ p. p.y) points) high.y
