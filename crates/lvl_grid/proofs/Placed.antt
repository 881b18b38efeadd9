-- A ring that was moved and mapped is a ring, and covers exactly the images of the squares that it covered.
use Rattle.std.proofs.Common.{◌≡◌, Bool, true, false, List, map, ◌+ℤ◌, neg_ℤ, refl, subst, arith, sym, ap, ◌∙◌, inl}
use Rattle.std.proofs.Common.{inr, All, ◌↔◌}
use Rattle.std.proofs.lemmas.Int.{ints}
use Rattle.lvl_grid.specs.declared.point.Point.{Point}
use Rattle.lvl_grid.specs.declared.point.Square.{Square}
use Rattle.lvl_grid.specs.declared.map.Map.{Map}
use Rattle.lvl_grid.specs.declared.map.Turn.{Turn}
use Rattle.lvl_grid.specs.declared.map.Turn.TheVariants.{R0, R90, R180, R270}
use Rattle.lvl_grid.specs.Winding.{edges, IsStraight, winding, Covers, IsRing}
use Rattle.lvl_grid.specs.Turn.{turned, reflected, shifted, image, image_square}
use Rattle.lvl_grid.specs.Placed.{placed_point, moved_square, IsPlaceOfCovered}
use Rattle.lvl_grid.proofs.Placing.{map-map, straight_ring, shift_winding, image_covers}
use Rattle.lvl_grid.proofs.Squares.{same_square, unplaced, image-unplaced}
use Rattle.std.proofs.lemmas.List.{length-map}

shifted_straight : (d p q : Point) → IsStraight (p, q) → IsStraight (shifted d p, shifted d q)
shifted_straight d p q (inl e) = inl (ap (λ z. z +ℤ d.x) e)
shifted_straight d p q (inr e) = inr (ap (λ z. z +ℤ d.y) e)

turned_straight : (t : Turn) (p q : Point) → IsStraight (p, q) → IsStraight (turned t p, turned t q)
turned_straight R0 p q h = h
turned_straight R90 p q (inl e) = inr e
turned_straight R90 p q (inr e) = inl (ap neg_ℤ e)
turned_straight R180 p q (inl e) = inl (ap neg_ℤ e)
turned_straight R180 p q (inr e) = inr (ap neg_ℤ e)
turned_straight R270 p q (inl e) = inr (ap neg_ℤ e)
turned_straight R270 p q (inr e) = inl e

reflected_straight : (f : Bool) (p q : Point) → IsStraight (p, q) → IsStraight (reflected f p, reflected f q)
reflected_straight false p q h = h
reflected_straight true p q (inl e) = inl e
reflected_straight true p q (inr e) = inr (ap neg_ℤ e)

-- a map keeps straight edges straight
pub placed_straight : (m : Map) (d p q : Point) → IsStraight (p, q)
    → IsStraight (placed_point m d p, placed_point m d q)
placed_straight m d p q h =
    shifted_straight m.at _ _ (turned_straight m.turn _ _ (reflected_straight m.flip _ _ (shifted_straight d p q h)))

pub IsRing-placed : (m : Map) (d : Point) (ps : List Point) → IsRing ps → IsRing (map (placed_point m d) ps)
IsRing-placed m d ps h = record {
  enough = rw length-map h.enough;
  straight = straight_ring (placed_point m d) (placed_straight m d) ps h.straight;
}

put_back : (d : Point) (s : Square) → moved_square d (moved_square (record { x = neg_ℤ d.x; y = neg_ℤ d.y }) s) ≡ s
put_back d s = same_square _ _ (omega (arith, ints)) (omega (arith, ints))

-- the placed ring covers the image of a square exactly if the ring covers the square
pub covers_place : (m : Map) (d : Point) (ps : List Point) → All IsStraight (edges ps) → (s : Square)
    → Covers (map (placed_point m d) ps) (image_square m (moved_square d s)) ↔ Covers ps s
covers_place m d ps h s =
    let moved : List Point = map (shifted d) ps in
    let whole : map (image m) moved ≡ map (placed_point m d) ps =
    map-map (shifted d) (image m) (placed_point m d) ps (λ p. refl) in
    let both = image_covers m moved (straight_ring (shifted d) (shifted_straight d) ps h) (moved_square d s) in
    let same : winding moved (moved_square d s) ≡ winding ps s = shift_winding d ps s in
    subst (λ (qs : List Point). Covers qs (image_square m (moved_square d s)) ↔ Covers ps s) whole
    (λ c e. both.0 c (same ∙ e), λ c. both.1 (λ e. c (sym same ∙ e)))

-- and it covers nothing else
pub covers_placed : (m : Map) (d : Point) (ps : List Point) → All IsStraight (edges ps) → (t : Square)
    → Covers (map (placed_point m d) ps) t ↔ IsPlaceOfCovered m d ps t
covers_placed m d ps h t =
    let from : Square = moved_square (record { x = neg_ℤ d.x; y = neg_ℤ d.y }) (unplaced m t) in
    let there : image_square m (moved_square d from) ≡ t =
    ap (image_square m) (put_back d (unplaced m t)) ∙ image-unplaced m t in (
      λ c. record {
        from = from;
        place = there;
        covered = (covers_place m d ps h from).0 (subst (Covers (map (placed_point m d) ps)) (sym there) c);
      },
      λ p. subst (Covers (map (placed_point m d) ps)) p.place ((covers_place m d ps h p.from).1 p.covered),
    )
