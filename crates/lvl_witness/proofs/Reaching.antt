-- Displacements that move a box to where it has a square.
use Rattle.std.proofs.Common.{refl, subst, arith}
use Rattle.std.proofs.lemmas.Int.{ints, clamps}
use Rattle.lvl_grid.specs.declared.point.Point.{Point}
use Rattle.lvl_grid.specs.declared.point.Square.{Square}
use Rattle.lvl_grid.specs.declared.point.Window.{Window}
use Rattle.lvl_grid.specs.declared.map.Map.{Map}
use Rattle.lvl_grid.specs.Clip.{IsInWindow}
use Rattle.lvl_grid.specs.Placed.{moved_square}
use Rattle.lvl_grid.specs.Turn.{image, image_square, shifted}
use Rattle.lvl_cells.specs.Cells.{PlainReference, map_at}
use Rattle.lvl_flat.specs.declared.bounds.Bounds.{Bounds}
use Rattle.lvl_flat.specs.Boxes.{HoldsPoint}
use Rattle.lvl_flat.specs.inside.Bounds.{HasSquare}
use Rattle.lvl_flat.proofs.Corners.{placed_within}
use Rattle.lvl_flat.proofs.Holding.{moved_place}
use Rattle.lvl_flat.proofs.Outside.{square_placed}
use Rattle.lvl_witness.specs.inside.Areas.{moved_box}
use Rattle.lvl_witness.specs.inside.Wide.{lesser_of, greater_of}

-- a box that has a square, moved with it
pub moved_has : (low high e : Point) (s : Square) → HasSquare (record { low = low; high = high }) s
    → HasSquare (moved_box low high e) (moved_square e s)
moved_has low high e s has = record {
  low = record {
    left = omega (arith, ints, has.low.left);
    right = omega (arith, ints, has.low.right);
    below = omega (arith, ints, has.low.below);
    above = omega (arith, ints, has.low.above);
  };
  high = record {
    left = omega (arith, ints, has.high.left);
    right = omega (arith, ints, has.high.right);
    below = omega (arith, ints, has.high.below);
    above = omega (arith, ints, has.high.above);
  };
}

-- the corners of a window as a box
abbrev pub box_of : Window → Bounds
box_of w = record { low = record { x = w.x0; y = w.y0 }; high = record { x = w.x1; y = w.y1 } }

window_has : (w : Window) (s : Square) → IsInWindow w s → HasSquare (box_of w) s
window_has w s i = record {
  low = record {
    left = omega (arith, ints, i.x_from);
    right = omega (arith, ints, i.x_below);
    below = omega (arith, ints, i.y_from);
    above = omega (arith, ints, i.y_below);
  };
  high = record {
    left = omega (arith, ints, i.x_from);
    right = omega (arith, ints, i.x_below);
    below = omega (arith, ints, i.y_from);
    above = omega (arith, ints, i.y_below);
  };
}

-- the box between the images of two points, moved, has the image of both
first_held : (p q e : Point) → HoldsPoint (moved_box (lesser_of p q) (greater_of p q) e) (shifted e p)
first_held p q e = record {
  left = omega (arith, ints, clamps);
  right = omega (arith, ints, clamps);
  below = omega (arith, ints, clamps);
  above = omega (arith, ints, clamps);
}

second_held : (p q e : Point) → HoldsPoint (moved_box (lesser_of p q) (greater_of p q) e) (shifted e q)
second_held p q e = record {
  left = omega (arith, ints, clamps);
  right = omega (arith, ints, clamps);
  below = omega (arith, ints, clamps);
  above = omega (arith, ints, clamps);
}

-- the box of a window, as a reference places it at the shift e, has the image of each square of the window
pub placed_has : (w : Window) (r : PlainReference) (e : Point) (s : Square) → IsInWindow w s
    → let m : Map = record { flip = r.flip; turn = r.turn; at = r.at } in
    let b : Bounds = box_of w in
    HasSquare
    (moved_box (lesser_of (image m b.low) (image m b.high)) (greater_of (image m b.low) (image m b.high)) e)
    (image_square (map_at r e) s)
placed_has w r e s inside =
    let m : Map = record { flip = r.flip; turn = r.turn; at = r.at } in
    let b : Bounds = box_of w in
    let p : Point = image m b.low in
    let q : Point = image m b.high in
    let box : Bounds = moved_box (lesser_of p q) (greater_of p q) e in
    let low : HoldsPoint box (image (map_at r e) b.low) =
    subst (HoldsPoint box) (moved_place r m e b.low refl refl refl) (first_held p q e) in
    let high : HoldsPoint box (image (map_at r e) b.high) =
    subst (HoldsPoint box) (moved_place r m e b.high refl refl refl) (second_held p q e) in
    square_placed (map_at r e) b box s (λ x held. placed_within (map_at r e) b box x low high held)
    (window_has w s inside)
