-- The order of squares (own rule): by row from below, and in a row from left to right. The corners of squares.
use Rattle.std.specs.Prelude.{◌≡◌, ◌<ℤ◌, ◌⊎◌, ◌↔◌, pos, ◌+ℤ◌}
use Rattle.lvl_grid.specs.declared.point.Square.{Square}
use Rattle.lvl_grid.specs.declared.point.Point.{Point}
use Rattle.lvl_grid.specs.declared.map.Map.{Map}
use Rattle.lvl_grid.specs.Turn.{image, image_square}

-- the square t comes before the square s
abbrev pub IsBefore : Square → Square → Type 0
IsBefore t s = (t.y <ℤ s.y) ⊎ ((t.y ≡ s.y) × (t.x <ℤ s.x))

-- the point is one of the four corners of the square, which is named by its lower left one
pub record IsCornerOf (s : Square) (p : Point) : Type 0 where
  pub column : (p.x ≡ s.x) ⊎ (p.x ≡ s.x +ℤ pos 1)
  pub row : (p.y ≡ s.y) ⊎ (p.y ≡ s.y +ℤ pos 1)

-- under every map, the corners of a square's image are exactly the images of its corners
abbrev pub KeepsCorners : Type 0
KeepsCorners = (m : Map) (s : Square) (p : Point) → IsCornerOf s p ↔ IsCornerOf (image_square m s) (image m p)
