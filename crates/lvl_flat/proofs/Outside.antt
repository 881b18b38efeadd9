-- The squares that rings and cells cover are in the boxes that have their points.
use Rattle.std.proofs.Common.{◌≡◌, ◌<◌, ℕ, zero, suc, List, [], ◌∷◌, map, get_or, length, slice_get, Option, Some}
use Rattle.std.proofs.Common.{All, Any, Contains, ◌⊎◌, inl, inr, ℤ, pos, neg_ℤ, ◌+ℤ◌, ◌-ℤ◌, ◌≤ℤ◌, Bool, true}
use Rattle.std.proofs.Common.{false, refl, sym, ap, subst, ◌∙◌, arith}
use Rattle.std.specs.Int.{int_min}
use Rattle.std.proofs.lemmas.Int.{ints, clamps}
use Rattle.std.proofs.lemmas.List.Elements.{All-head, All-tail, All-contains, All-weaker}
use Rattle.lvl_grid.specs.declared.point.Point.{Point}
use Rattle.lvl_grid.specs.declared.point.Square.{Square}
use Rattle.lvl_grid.specs.declared.point.Window.{Window}
use Rattle.lvl_grid.specs.declared.map.Map.{Map}
use Rattle.lvl_grid.specs.declared.map.Turn.{Turn}
use Rattle.lvl_grid.specs.declared.map.Turn.TheVariants.{R0, R90, R180, R270}
use Rattle.lvl_grid.specs.declared.part.Part.TheVariants.{Within}
use Rattle.lvl_grid.specs.Clip.{put, clamp, IsInWindow}
use Rattle.lvl_grid.specs.Placed.{placed_point, moved_square, IsPlaceOfCovered}
use Rattle.lvl_grid.specs.Turn.{image, image_square, shifted, FitsPoint}
use Rattle.lvl_grid.specs.Winding.{Covers, SomeCovers}
use Rattle.lvl_grid.proofs.Clipping.{kept_covers}
use Rattle.lvl_grid.proofs.Composing.{composed, image-composed, same_point}
use Rattle.lvl_grid.proofs.Squares.{same_square}
use Rattle.lvl_names.specs.declared.layer.Layer.{Layer}
use Rattle.lvl_cells.specs.Cells.{PlainCell, PlainShape, PlainReference, Rings, map_at, cell_named}
use Rattle.lvl_cells.specs.Chains.{Chain, unmoved}
use Rattle.lvl_cells.specs.Coverage.{moved_back, ShapeCovers, PullsBack, CoversWithin, CellCovers}
use Rattle.lvl_flat.specs.declared.bounds.Bounds.{Bounds}
use Rattle.lvl_flat.specs.Boxes.{HoldsPoint, HoldsShape, HoldsCell, HoldsChains, AreBoxes}
use Rattle.lvl_flat.specs.inside.Bounds.{HasSquare, HoldsOwn}
use Rattle.lvl_flat.specs.inside.Bounds.{IsBeside, IsInside, IsOutside, IsPlacedOutside}
use Rattle.lvl_flat.specs.Flattened.{AllInRange}
use Rattle.lvl_flat.specs.inside.Visits.{FitsUnder, PickCovers}
use Rattle.lvl_flat.proofs.Covering.{Under, some_is}
use Rattle.lvl_flat.proofs.Holding.{fits_within}
use Rattle.lvl_flat.proofs.Ranging.{image-unmoved, composed_at}

-- the squares between the corners
abbrev as_window : Bounds → Window
as_window b = record { x0 = b.low.x; y0 = b.low.y; x1 = b.high.x; y1 = b.high.y }

clamp_kept : (low high a : ℤ) → low ≤ℤ a → a ≤ℤ high → clamp low high a ≡ a
clamp_kept low high a h g = grind (arith, ints, clamps, h, g)

point_kept : (b : Bounds) (p : Point) → HoldsPoint b p → put (Within (as_window b)) p ≡ p
point_kept b p w =
    same_point _ _ (clamp_kept b.low.x b.high.x p.x w.left w.right) (clamp_kept b.low.y b.high.y p.y w.below w.above)

ring_kept : (b : Bounds) (ring : List Point) → All (HoldsPoint b) ring → map (put (Within (as_window b))) ring ≡ ring
ring_kept b [] all = refl
ring_kept b (p ∷ ring) all =
    let f : Point → Point = put (Within (as_window b)) in
    ap (λ q. q ∷ map f ring) (point_kept b p (All-head (HoldsPoint b) p ring all))
    ∙ ap (λ qs. p ∷ qs) (ring_kept b ring (All-tail (HoldsPoint b) p ring all))

-- a box is in a window if its corners are
pub inside_by : (b : Bounds) (w : Window) → w.x0 ≤ℤ b.low.x → b.high.x ≤ℤ w.x1 → w.y0 ≤ℤ b.low.y → b.high.y ≤ℤ w.y1
    → IsInside b w
inside_by b w l r d u = record {
  all = λ s has. record {
    x_from = omega (arith, ints, l, has.low.left);
    x_below = omega (arith, ints, r, has.high.right);
    y_from = omega (arith, ints, d, has.low.below);
    y_below = omega (arith, ints, u, has.high.above);
  };
}

-- a box on one side of a window has no square of it
pub beside_outside : (b : Bounds) (w : Window) → IsBeside b w → IsOutside b w
beside_outside b w h = record {
  none = λ s has i.
      elim h [
        | inl left ↦ omega (arith, ints, left, has.high.right, i.x_from)
        | inr other ↦
            elim other [
              | inl right ↦ omega (arith, ints, right, has.low.left, i.x_below)
              | inr rest ↦
                  elim rest [
                    | inl below ↦ omega (arith, ints, below, has.high.above, i.y_from)
                    | inr above ↦ omega (arith, ints, above, has.low.below, i.y_below)
                  ]
            ]
      ];
}

-- a square that a ring covers is in a box that has the ring's points
pub ring_square : (b : Bounds) (ring : List Point) (s : Square) → All (HoldsPoint b) ring → Covers ring s
    → HasSquare b s
ring_square b ring s all covers =
    let inside : IsInWindow (as_window b) s =
    ((kept_covers (Within (as_window b)) ring s (ring_kept b ring all)).0 covers).0 in
    record {
      low = record {
        left = inside.x_from;
        right = omega (arith, ints, inside.x_below);
        below = inside.y_from;
        above = omega (arith, ints, inside.y_below);
      };
      high = record {
        left = omega (arith, ints, inside.x_from);
        right = omega (arith, ints, inside.x_below);
        below = omega (arith, ints, inside.y_from);
        above = omega (arith, ints, inside.y_below);
      };
    }

abbrev low_corner : Square → Point
low_corner s = record { x = s.x; y = s.y }

abbrev high_corner : Square → Point
high_corner s = record { x = s.x +ℤ pos 1; y = s.y +ℤ pos 1 }

-- two numbers are one apart
record AreNext (a b : ℤ) : Type 0 where
  way : (b ≡ a +ℤ pos 1) ⊎ (a ≡ b +ℤ pos 1)

next_up : (a d : ℤ) → AreNext (a +ℤ d) ((a +ℤ pos 1) +ℤ d)
next_up a d = record { way = inl (omega (arith, ints)) }

next_down : (a d : ℤ) → AreNext (neg_ℤ a +ℤ d) (neg_ℤ (a +ℤ pos 1) +ℤ d)
next_down a d = record { way = inr (omega (arith, ints)) }

next_back : (a d : ℤ) → AreNext (neg_ℤ (neg_ℤ a) +ℤ d) (neg_ℤ (neg_ℤ (a +ℤ pos 1)) +ℤ d)
next_back a d = record { way = inl (omega (arith, ints)) }

-- along both axes the images of a square's corners are one apart
abbrev Adjoin : Map → Square → Type 0
Adjoin m s =
    AreNext (image m (low_corner s)).x (image m (high_corner s)).x
    × AreNext (image m (low_corner s)).y (image m (high_corner s)).y

adjoin : (f : Bool) (t : Turn) (at : Point) (s : Square) → Adjoin (record { flip = f; turn = t; at = at }) s
adjoin false R0 at s = (next_up s.x at.x, next_up s.y at.y)
adjoin false R90 at s = (next_down s.y at.x, next_up s.x at.y)
adjoin false R180 at s = (next_down s.x at.x, next_down s.y at.y)
adjoin false R270 at s = (next_up s.y at.x, next_down s.x at.y)
adjoin true R0 at s = (next_up s.x at.x, next_down s.y at.y)
adjoin true R90 at s = (next_back s.y at.x, next_up s.x at.y)
adjoin true R180 at s = (next_down s.x at.x, next_back s.y at.y)
adjoin true R270 at s = (next_down s.y at.x, next_down s.x at.y)

record HasStep (l a b h : ℤ) : Type 0 where
  from : l ≤ℤ int_min a b
  to : int_min a b ≤ℤ h
  next_from : l ≤ℤ (int_min a b +ℤ pos 1)
  next_to : (int_min a b +ℤ pos 1) ≤ℤ h

has_step : (l a b h : ℤ) → AreNext a b → l ≤ℤ a → a ≤ℤ h → l ≤ℤ b → b ≤ℤ h → HasStep l a b h
has_step l a b h next p q r s = elim next.way [
  | inl e ↦ record {
    from = omega (arith, ints, clamps, e, p, q, r, s);
    to = omega (arith, ints, clamps, e, p, q, r, s);
    next_from = omega (arith, ints, clamps, e, p, q, r, s);
    next_to = omega (arith, ints, clamps, e, p, q, r, s);
  }
  | inr e ↦ record {
    from = omega (arith, ints, clamps, e, p, q, r, s);
    to = omega (arith, ints, clamps, e, p, q, r, s);
    next_from = omega (arith, ints, clamps, e, p, q, r, s);
    next_to = omega (arith, ints, clamps, e, p, q, r, s);
  }
]

-- a box that has the images of a square's corners has its image
pub image_within : (m : Map) (b : Bounds) (s : Square) → HoldsPoint b (image m (low_corner s))
    → HoldsPoint b (image m (high_corner s)) → HasSquare b (image_square m s)
image_within m b s low high =
    let both = adjoin m.flip m.turn m.at s in
    let across =
    has_step b.low.x (image m (low_corner s)).x (image m (high_corner s)).x b.high.x both.0 low.left low.right high.left
    high.right in
    let along =
    has_step b.low.y (image m (low_corner s)).y (image m (high_corner s)).y b.high.y both.1 low.below low.above
    high.below high.above in
    record {
      low = record { left = across.from; right = across.to; below = along.from; above = along.to };
      high = record {
        left = across.next_from;
        right = across.next_to;
        below = along.next_from;
        above = along.next_to;
      };
    }

-- a box that has the images of all points of another has the images of its squares
pub square_placed : (m : Map) (b r : Bounds) (s : Square) → ((p : Point) → HoldsPoint b p → HoldsPoint r (image m p))
    → HasSquare b s → HasSquare r (image_square m s)
square_placed m b r s holds has = image_within m r s (holds (low_corner s) has.low) (holds (high_corner s) has.high)

moved_high : (e : Point) (s : Square) → shifted e (high_corner s) ≡ high_corner (moved_square e s)
moved_high e s = same_point _ _ (omega (arith, ints)) (omega (arith, ints))

-- a box that has the images of all points of a ring's box has the squares that the placed ring covers
pub placed_square : (m : Map) (e : Point) (b r : Bounds) (ring : List Point) (q : Square)
    → ((p : Point) → HoldsPoint b p → HoldsPoint r (placed_point m e p)) → All (HoldsPoint b) ring
    → IsPlaceOfCovered m e ring q → HasSquare r q
placed_square m e b r ring q holds all at =
    let has : HasSquare b at.from = ring_square b ring at.from all at.covered in
    subst (HasSquare r) at.place
    (image_within m r (moved_square e at.from) (holds (low_corner at.from) has.low)
    (subst (λ p. HoldsPoint r (image m p)) (moved_high e at.from) (holds (high_corner at.from) has.high)))

-- the box of the points whose images are in a box
abbrev pulled : Bool → Turn → Point → Bounds → Bounds
pulled false R0 at b = record {
  low = record { x = b.low.x -ℤ at.x; y = b.low.y -ℤ at.y };
  high = record { x = b.high.x -ℤ at.x; y = b.high.y -ℤ at.y };
}
pulled false R90 at b = record {
  low = record { x = b.low.y -ℤ at.y; y = at.x -ℤ b.high.x };
  high = record { x = b.high.y -ℤ at.y; y = at.x -ℤ b.low.x };
}
pulled false R180 at b = record {
  low = record { x = at.x -ℤ b.high.x; y = at.y -ℤ b.high.y };
  high = record { x = at.x -ℤ b.low.x; y = at.y -ℤ b.low.y };
}
pulled false R270 at b = record {
  low = record { x = at.y -ℤ b.high.y; y = b.low.x -ℤ at.x };
  high = record { x = at.y -ℤ b.low.y; y = b.high.x -ℤ at.x };
}
pulled true R0 at b = record {
  low = record { x = b.low.x -ℤ at.x; y = at.y -ℤ b.high.y };
  high = record { x = b.high.x -ℤ at.x; y = at.y -ℤ b.low.y };
}
pulled true R90 at b = record {
  low = record { x = b.low.y -ℤ at.y; y = b.low.x -ℤ at.x };
  high = record { x = b.high.y -ℤ at.y; y = b.high.x -ℤ at.x };
}
pulled true R180 at b = record {
  low = record { x = at.x -ℤ b.high.x; y = b.low.y -ℤ at.y };
  high = record { x = at.x -ℤ b.low.x; y = b.high.y -ℤ at.y };
}
pulled true R270 at b = record {
  low = record { x = at.y -ℤ b.high.y; y = at.x -ℤ b.high.x };
  high = record { x = at.y -ℤ b.low.y; y = at.x -ℤ b.low.x };
}

abbrev PulledIn : Bool → Turn → Point → Bounds → Point → Type 0
PulledIn f t at b p =
    let m : Map = record { flip = f; turn = t; at = at } in
    (HoldsPoint b (image m p) → HoldsPoint (pulled f t at b) p)
    × (HoldsPoint (pulled f t at b) p → HoldsPoint b (image m p))

within_all : (b : Bounds) (p : Point) → b.low.x ≤ℤ p.x → p.x ≤ℤ b.high.x → b.low.y ≤ℤ p.y → p.y ≤ℤ b.high.y
    → HoldsPoint b p
within_all b p l r d u = record { left = l; right = r; below = d; above = u }

pulled_in : (f : Bool) (t : Turn) (at : Point) (b : Bounds) (p : Point) → PulledIn f t at b p
pulled_in false R0 at b p = (
  λ w. within_all _ _ (omega (arith, ints, w.left)) (omega (arith, ints, w.right)) (omega (arith, ints, w.below))
      (omega (arith, ints, w.above)),
  λ w. within_all _ _ (omega (arith, ints, w.left)) (omega (arith, ints, w.right)) (omega (arith, ints, w.below))
      (omega (arith, ints, w.above)),
)
pulled_in false R90 at b p = (
  λ w. within_all _ _ (omega (arith, ints, w.below)) (omega (arith, ints, w.above)) (omega (arith, ints, w.right))
      (omega (arith, ints, w.left)),
  λ w. within_all _ _ (omega (arith, ints, w.above)) (omega (arith, ints, w.below)) (omega (arith, ints, w.left))
      (omega (arith, ints, w.right)),
)
pulled_in false R180 at b p = (
  λ w. within_all _ _ (omega (arith, ints, w.right)) (omega (arith, ints, w.left)) (omega (arith, ints, w.above))
      (omega (arith, ints, w.below)),
  λ w. within_all _ _ (omega (arith, ints, w.right)) (omega (arith, ints, w.left)) (omega (arith, ints, w.above))
      (omega (arith, ints, w.below)),
)
pulled_in false R270 at b p = (
  λ w. within_all _ _ (omega (arith, ints, w.above)) (omega (arith, ints, w.below)) (omega (arith, ints, w.left))
      (omega (arith, ints, w.right)),
  λ w. within_all _ _ (omega (arith, ints, w.below)) (omega (arith, ints, w.above)) (omega (arith, ints, w.right))
      (omega (arith, ints, w.left)),
)
pulled_in true R0 at b p = (
  λ w. within_all _ _ (omega (arith, ints, w.left)) (omega (arith, ints, w.right)) (omega (arith, ints, w.above))
      (omega (arith, ints, w.below)),
  λ w. within_all _ _ (omega (arith, ints, w.left)) (omega (arith, ints, w.right)) (omega (arith, ints, w.above))
      (omega (arith, ints, w.below)),
)
pulled_in true R90 at b p = (
  λ w. within_all _ _ (omega (arith, ints, w.below)) (omega (arith, ints, w.above)) (omega (arith, ints, w.left))
      (omega (arith, ints, w.right)),
  λ w. within_all _ _ (omega (arith, ints, w.below)) (omega (arith, ints, w.above)) (omega (arith, ints, w.left))
      (omega (arith, ints, w.right)),
)
pulled_in true R180 at b p = (
  λ w. within_all _ _ (omega (arith, ints, w.right)) (omega (arith, ints, w.left)) (omega (arith, ints, w.below))
      (omega (arith, ints, w.above)),
  λ w. within_all _ _ (omega (arith, ints, w.right)) (omega (arith, ints, w.left)) (omega (arith, ints, w.below))
      (omega (arith, ints, w.above)),
)
pulled_in true R270 at b p = (
  λ w. within_all _ _ (omega (arith, ints, w.above)) (omega (arith, ints, w.below)) (omega (arith, ints, w.right))
      (omega (arith, ints, w.left)),
  λ w. within_all _ _ (omega (arith, ints, w.above)) (omega (arith, ints, w.below)) (omega (arith, ints, w.right))
      (omega (arith, ints, w.left)),
)

-- a box in the coordinates of a placed cell
abbrev seen_from : Map → Bounds → Bounds
seen_from m b = pulled m.flip m.turn m.at b

-- a chain from the cell that a reference names, after that reference, is a chain
pub chain_after : (cells : List (PlainCell Rings)) (c d : PlainCell Rings) (k : ℕ) (r : PlainReference) (j : ℕ)
    (e : Point)
    → k < length c.references → get_or c.references k r ≡ r → j < length r.shifts → get_or r.shifts j e ≡ e
    → cell_named cells r.cell ≡ Some d → (n : ℕ) (w : Map) (f : PlainCell Rings) → Chain cells d n w f
    → Chain cells c (suc n) (composed (map_at r e) w) f
chain_after cells c d k r j e lk at lj shift named zero w f chain = (
  unmoved,
  c,
  (refl, refl),
  (
    k,
    r,
    lk,
    at,
    (
      named ∙ ap Some (sym chain.1),
      (
        j,
        e,
        lj,
        shift,
        λ p. image-composed (map_at r e) w p
            ∙ (ap (λ (u : Map). image (map_at r e) (image u p)) chain.0
            ∙ (ap (image (map_at r e)) (image-unmoved p) ∙ sym (image-unmoved (image (map_at r e) p)))),
      ),
    ),
  ),
)
chain_after cells c d k r j e lk at lj shift named (suc n) w f chain =
    let first : Map = map_at r e in
    let last = chain.3 in
    let place = last.4.1 in (
      composed first chain.0,
      chain.1,
      chain_after cells c d k r j e lk at lj shift named n chain.0 chain.1 chain.2,
      (
        last.0,
        last.1,
        last.2,
        last.3,
        (
          last.4.0,
          (
            place.0,
            place.1,
            place.2,
            place.3,
            λ p. image-composed first w p
                ∙ (ap (image first) (place.4 p)
                ∙ sym (image-composed first chain.0 (image (map_at last.1 place.1) p))),
          ),
        ),
      ),
    )

-- if a box has all that a cell places, then in the coordinates of the cell that a reference names it has all that this
-- cell places
seen_chains : (cells : List (PlainCell Rings)) (b : Bounds) (c d : PlainCell Rings) (m : Map)
    → ((n : ℕ) (w : Map) (f : PlainCell Rings) → Chain cells d n w f → Chain cells c (suc n) (composed m w) f)
    → HoldsChains cells b c → HoldsChains cells (seen_from m b) d
seen_chains cells b c d m after held = record {
  chains = λ n w f chain.
      let here : HoldsCell b (composed m w) f = held.chains (suc n) (composed m w) f (after n w f chain) in
      record {
        shift =
            (pulled_in m.flip m.turn m.at b w.at).0
            (subst (HoldsPoint b) (composed_at m w (composed m w) (λ p. image-composed m w p)) here.shift);
        vertices =
            λ i h li k e lk j ring lj l v ll.
            (pulled_in m.flip m.turn m.at b _).0
            (subst (HoldsPoint b) (image-composed m w _) (here.vertices i h li k e lk j ring lj l v ll));
      };
}

-- the map that moves by a shift
abbrev moving : Point → Map
moving e = record { flip = false; turn = R0; at = e }

moved_there : (e : Point) (s : Square) → image_square (moving e) (moved_back e s) ≡ s
moved_there e s = same_square _ _ (omega (arith, ints, clamps)) (omega (arith, ints, clamps))

-- a square that a shape covers is in a box that has the shape
pub shape_square : (layer : Layer) (b : Bounds) (h : PlainShape Rings) (s : Square) → HoldsOwn b h
    → ShapeCovers SomeCovers layer s h → HasSquare b s
shape_square layer b h s held covers =
    let at = covers.1 in
    let e : Point = at.1 in
    let by = at.4 in
    let ring : List Point = by.1 in
    let V : List Point → Type 0 = λ r. All (λ v. HoldsPoint b (shifted e v)) r in
    let figure : All V h.figure =
    All-contains (λ d. All (λ r. All (λ v. HoldsPoint b (shifted d v)) r) h.figure) h.shifts e held
    (at.0, at.2, at.3) in
    let points : V ring = All-contains V h.figure ring figure (by.0, by.2, by.3) in
    let inner : Bounds = seen_from (moving e) b in
    let seen : All (HoldsPoint inner) ring =
    All-weaker (λ v. HoldsPoint b (shifted e v)) (HoldsPoint inner) (λ v w. (pulled_in false R0 e b v).0 w) ring
    points in
    let has : HasSquare inner (moved_back e s) = ring_square inner ring (moved_back e s) seen by.4 in
    subst (HasSquare b) (moved_there e s)
    (square_placed (moving e) inner b (moved_back e s) (λ p w. (pulled_in false R0 e b p).1 w) has)

-- a square that a cell's own shapes cover
own_square : (cells : List (PlainCell Rings)) (layer : Layer) (b : Bounds) (c : PlainCell Rings) (s : Square)
    → HoldsChains cells b c → Any (ShapeCovers SomeCovers layer s) c.shapes → HasSquare b s
own_square cells layer b c s held a =
    let here : HoldsCell b unmoved c = held.chains 0 unmoved c (refl, refl) in
    let h : PlainShape Rings = a.1 in
    let shape : HoldsShape b unmoved h =
    All-contains (HoldsShape b unmoved) c.shapes h here.vertices (a.0, a.2, a.3) in
    shape_square layer b h s
    (λ j e lj k ring lk l v ll. subst (HoldsPoint b) (image-unmoved _) (shape j e lj k ring lk l v ll)) a.4

-- a square that a cell covers is in a box that has all that the cell places
pub cell_square : (cells : List (PlainCell Rings)) (layer : Layer) (n : ℕ) (b : Bounds) (c : PlainCell Rings)
    (s : Square) → HoldsChains cells b c → CoversWithin SomeCovers cells layer n c s → HasSquare b s
cell_square cells layer zero b c s held a = own_square cells layer b c s held a
cell_square cells layer (suc n) b c s held (inl a) = own_square cells layer b c s held a
cell_square cells layer (suc n) b c s held (inr a) =
    let r : PlainReference = a.1 in
    let found =
    some_is (λ d. Any (PullsBack (CoversWithin SomeCovers cells layer n d) r s) r.shifts) (cell_named cells r.cell)
    a.4 in
    let d : PlainCell Rings = found.0 in
    let at = found.2 in
    let e : Point = at.1 in
    let m : Map = map_at r e in
    let back = at.4 in
    let inner : HoldsChains cells (seen_from m b) d =
    seen_chains cells b c d m (chain_after cells c d a.0 r at.0 e a.2 a.3 at.2 at.3 found.1) held in
    let has : HasSquare (seen_from m b) back.0 = cell_square cells layer n (seen_from m b) d back.0 inner back.2 in
    subst (HasSquare b) back.1
    (square_placed m (seen_from m b) b back.0 (λ p w. (pulled_in m.flip m.turn m.at b p).1 w) has)

-- a cell whose placed box is outside of the window covers none of its squares
pub outside_covers : (cells : List (PlainCell Rings)) (known : List (Option Bounds)) (i : ℕ) (m : Map)
    (window : Window) (c : PlainCell Rings) → AreBoxes cells known → slice_get cells i ≡ Some c
    → IsPlacedOutside known i m window → (layer : Layer) (q : Square) → IsInWindow window q
    → Under m q (CellCovers SomeCovers cells layer c) → ⊥
outside_covers cells known i m window c boxes at out layer q shown u =
    let held : HoldsChains cells out.box c = (boxes i out.box c out.there at).1 in
    let has : HasSquare out.box u.0 = cell_square cells layer u.2.0 out.box c u.0 held u.2.1 in
    out.outside.none q (subst (HasSquare out.placed) u.1 (square_placed m out.box out.placed u.0 out.holds has)) shown

-- a square that a reference's cell covers, placed at one of its shifts, is in a box that has all that is placed
pub reference_square : (cells : List (PlainCell Rings)) (layer : Layer) (b t : Bounds) (r : PlainReference)
    (d : PlainCell Rings) (s : Square) → cell_named cells r.cell ≡ Some d → HoldsChains cells t d
    → ((p e : Point) → Contains r.shifts e → HoldsPoint t p → HoldsPoint b (image (map_at r e) p))
    → Any (λ e. PickCovers cells layer s (r, e)) r.shifts → HasSquare b s
reference_square cells layer b t r d s named chains placed a =
    let e : Point = a.1 in
    let found =
    some_is (λ x. PullsBack (CellCovers SomeCovers cells layer x) r s e) (cell_named cells r.cell) a.4 in
    let both : Some found.0 ≡ Some d = sym found.1 ∙ named in
    let one : found.0 ≡ d = cc in
    let back = found.2 in
    let covers : CellCovers SomeCovers cells layer d back.0 =
    subst (λ x. CellCovers SomeCovers cells layer x back.0) one back.2 in
    let has : HasSquare t back.0 = cell_square cells layer covers.0 t d back.0 chains covers.1 in
    subst (HasSquare b) back.1
    (square_placed (map_at r e) t b back.0 (λ p w. placed p e (a.0, a.2, a.3) w) has)

-- and all that it places is in range
pub outside_fits : (cells : List (PlainCell Rings)) (known : List (Option Bounds)) (i : ℕ) (m : Map)
    (window : Window) (c : PlainCell Rings) → AreBoxes cells known → slice_get cells i ≡ Some c
    → IsPlacedOutside known i m window → FitsUnder cells m c
outside_fits cells known i m window c boxes at out n w d chain v whole =
    let held : HoldsCell out.box w d = (boxes i out.box c out.there at).1.chains n w d chain in
    record {
      shift =
          fits_within out.placed v.at out.fits
          (subst (HoldsPoint out.placed) (sym (composed_at m w v whole)) (out.holds w.at held.shift));
      vertices =
          λ k h lk j e lj l ring ll p x lp.
          fits_within out.placed _ out.fits
          (subst (HoldsPoint out.placed) (sym (whole _)) (out.holds _ (held.vertices k h lk j e lj l ring ll p x lp)));
    }

-- a square in a box is in the window between the corners
pub square_window : (b : Bounds) (s : Square) → HasSquare b s → IsInWindow (as_window b) s
square_window b s has = record {
  x_from = has.low.left;
  x_below = omega (arith, ints, has.high.right);
  y_from = has.low.below;
  y_below = omega (arith, ints, has.high.above);
}

-- what is in range is in the box of all points of 64 bits
pub grid_holds : (cells : List (PlainCell Rings)) (c : PlainCell Rings) (b : Bounds)
    → ((p : Point) → FitsPoint p → HoldsPoint b p) → AllInRange cells c → HoldsChains cells b c
grid_holds cells c b every all = record {
  chains = λ n m d chain.
      let here = all n m d chain in
      record {
        shift = every m.at here.shift;
        vertices = λ i h li j e lj k ring lk l v ll. every _ (here.vertices i h li j e lj k ring lk l v ll);
      };
}
