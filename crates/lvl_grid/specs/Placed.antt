-- Points, squares and rings, moved by a shift and then placed by a map.
use Rattle.std.specs.Prelude.{◌≡◌, ◌+ℤ◌, List}
use Rattle.lvl_grid.specs.declared.point.Point.{Point}
use Rattle.lvl_grid.specs.declared.point.Square.{Square}
use Rattle.lvl_grid.specs.declared.map.Map.{Map}
use Rattle.lvl_grid.specs.Turn.{shifted, image, image_square}
use Rattle.lvl_grid.specs.Winding.{Covers}

-- the image of a point that is first moved by d
abbrev pub placed_point : Map → Point → Point → Point
placed_point m d p = image m (shifted d p)

-- the square moved by d
abbrev pub moved_square : Point → Square → Square
moved_square d s = record { x = s.x +ℤ d.x; y = s.y +ℤ d.y }

-- the square t is the image of a square that the ring covers and that is first moved by d
pub record IsPlaceOfCovered (m : Map) (d : Point) (ps : List Point) (t : Square) : Type 0 where
  pub from : Square
  pub place : image_square m (moved_square d from) ≡ t
  pub covered : Covers ps from
