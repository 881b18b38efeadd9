-- The corners of two lists of rings, and where both lists may be cut.
use Rattle.std.specs.Prelude.{◌≡◌, ℤ, ◌<ℤ◌, List, ◌++◌, Any}
use Rattle.std.specs.List.{flat_map}
use Rattle.lvl_grid.specs.declared.point.Point.{Point}

-- the points of all rings of both lists, with duplicates
abbrev pub corners_of : List (List Point) → List (List Point) → List Point
corners_of first second = flat_map (λ ring. ring) first ++ flat_map (λ ring. ring) second

-- a corner has the abscissa, one is left of it, and one is right of it
pub record IsInner (at : ℤ) (corners : List Point) : Type 0 where
  pub left : Any (λ p. p.x <ℤ at) corners
  pub one : Any (λ p. p.x ≡ at) corners
  pub right : Any (λ p. at <ℤ p.x) corners
