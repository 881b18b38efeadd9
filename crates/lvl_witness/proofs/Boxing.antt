-- Boxes of points, moved.
use Rattle.std.proofs.Common.{◌≡◌, ℤ, ◌+ℤ◌, ℕ, List, map, slice_get, Some, Contains, refl, sym, ap, subst, ◌∙◌, arith}
use Rattle.std.proofs.lemmas.Int.{ints}
use Rattle.std.proofs.lemmas.List.Elements.{All-map, All-weaker}
use Rattle.lvl_grid.specs.declared.point.Point.{Point}
use Rattle.lvl_grid.specs.declared.point.Square.{Square}
use Rattle.lvl_grid.specs.declared.map.Map.{Map}
use Rattle.lvl_names.specs.declared.layer.Layer.{Layer}
use Rattle.lvl_cells.specs.Cells.{PlainShape, Rings, shape_at}
use Rattle.lvl_witness.specs.declared.witness.PlacedRing.{PlacedRing}
use Rattle.lvl_witness.specs.Witnesses.{IsCoveringRing}
use Rattle.lvl_witness.specs.inside.Rings.{IsCoveringPart, IsRingAt}
use Rattle.lvl_grid.specs.Turn.{shifted}
use Rattle.lvl_grid.proofs.Placing.{map-map}
use Rattle.lvl_names.specs.Shifts.{IsBetween}
use Rattle.lvl_names.proofs.Elements.{at_contains, contains_at}
use Rattle.lvl_witness.specs.Boxes.{IsBoxOf}
use Rattle.std.specs.Option.{option_map}
use Rattle.std.proofs.lemmas.Option.{slice_get-map}

-- one of the numbers of a list, as the list is mapped
contains_map : (f : ℤ → ℤ) (zs : List ℤ) (z : ℤ) → Contains zs z → Contains (map f zs) (f z)
contains_map f zs z has =
    let at = at_contains zs z has in
    contains_at (map f zs) at.0 (f z) (slice_get-map f zs at.0 ∙ ap (option_map f) at.1)

-- a coordinate of one of the points, moved
moved_along : (of : Point → ℤ) (e : Point) (d : ℤ) (points : List Point) (z : ℤ)
    → ((p : Point) → of (shifted e p) ≡ of p +ℤ d) → Contains (map of points) z
    → Contains (map of (map (shifted e) points)) (z +ℤ d)
moved_along of e d points z moves has =
    let sum : Point → ℤ = λ p. of p +ℤ d in
    let same : map (λ a. a +ℤ d) (map of points) ≡ map of (map (shifted e) points) =
    map-map of (λ a. a +ℤ d) sum points (λ p. refl) ∙ sym (map-map (shifted e) of sum points moves) in
    subst (λ zs. Contains zs (z +ℤ d)) same (contains_map (λ a. a +ℤ d) (map of points) z has)

pub box_moved : (low high e : Point) (points : List Point) → IsBoxOf low high points
    → IsBoxOf (shifted e low) (shifted e high) (map (shifted e) points)
box_moved low high e points b = record {
  between =
      All-map (IsBetween (shifted e low) (shifted e high)) (shifted e) points
      (All-weaker (IsBetween low high) (λ p. IsBetween (shifted e low) (shifted e high) (shifted e p)) (λ p w. record {
        left = omega (arith, ints, w.left);
        right = omega (arith, ints, w.right);
        below = omega (arith, ints, w.below);
        above = omega (arith, ints, w.above);
      }) points b.between);
  left = moved_along (λ p. p.x) e e.x points low.x (λ p. refl) b.left;
  right = moved_along (λ p. p.x) e e.x points high.x (λ p. refl) b.right;
  below = moved_along (λ p. p.y) e e.y points low.y (λ p. refl) b.below;
  above = moved_along (λ p. p.y) e e.y points high.y (λ p. refl) b.above;
}

-- the ring that was found, with its counts and its box
pub covering_ring : (shapes : List (PlainShape Rings)) (m : Map) (layers : List Layer) (q : Square)
    (i ring place : ℕ) (p : PlacedRing) → slice_get shapes i ≡ Some (shape_at shapes i)
    → Contains layers (shape_at shapes i).layer → IsCoveringPart m q (shape_at shapes i) (ring, place)
    → IsRingAt shapes i place ring p → IsCoveringRing shapes m layers q p
covering_ring shapes m layers q i ring place p at listed part is =
    let h : PlainShape Rings = shape_at shapes i in
    record {
      shape = h;
      shape_is = ap (slice_get shapes) is.shape_is ∙ at;
      shapes_are = is.shapes_are;
      layer_is = is.layer_is;
      listed = subst (λ l. Contains layers l) (sym is.layer_is) listed;
      shift = part.place.shift;
      shift_is = ap (slice_get h.shifts) is.place_is ∙ part.place.shift_is;
      places_are = is.places_are;
      ring = part.ring;
      ring_is = ap (slice_get h.figure) is.ring_is ∙ part.ring_is;
      rings_are = is.rings_are;
      covers = part.place.covers;
      is_box = is.is_box part.place.shift part.ring part.place.shift_is part.ring_is;
    }
