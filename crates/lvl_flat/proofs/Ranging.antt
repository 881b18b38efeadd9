-- Chains by their first reference, and which of them are in range.
use Rattle.std.proofs.Common.{◌≡◌, ℕ, zero, suc, List, Some, Any, Contains, ℤ, pos, ◌+ℤ◌, refl, sym, ap, subst, ◌∙◌}
use Rattle.std.proofs.Common.{arith}
use Rattle.std.proofs.lemmas.Int.{ints}
use Rattle.lvl_grid.specs.declared.point.Point.{Point}
use Rattle.lvl_grid.specs.declared.map.Map.{Map}
use Rattle.lvl_grid.specs.Turn.{image, FitsPoint}
use Rattle.lvl_grid.proofs.Composing.{composed, image-composed, same_point}
use Rattle.lvl_grid.proofs.Squares.{image_of_origin}
use Rattle.lvl_grid.proofs.Paths.{origin}
use Rattle.lvl_cells.specs.Cells.{PlainCell, PlainReference, Rings, each_ring, map_at, cell_named}
use Rattle.lvl_cells.specs.Chains.{Chain, IsComposed, IsInRange, unmoved}
use Rattle.lvl_flat.specs.inside.Visits.{Pick, picks, FitsUnder, PicksFit}
use Rattle.lvl_flat.proofs.Picks.{picks_any}

plus_zero : (a : ℤ) → a +ℤ pos 0 ≡ a
plus_zero a = omega (arith, ints)

-- the map of the empty chain moves no point
pub image-unmoved : (p : Point) → image unmoved p ≡ p
image-unmoved p = same_point _ _ (plus_zero p.x) (plus_zero p.y)

-- the last reference of a chain is a pick of the cell before
last_pick : (cells : List (PlainCell Rings)) (refs : List PlainReference) (w m : Map) (d : PlainCell Rings)
    → Any (λ r. (cell_named cells r.cell ≡ Some d) × Any (λ e. IsComposed w (map_at r e) m) r.shifts) refs
    → Any (λ p. (cell_named cells p.0.cell ≡ Some d) × IsComposed w (map_at p.0 p.1) m) (picks refs)
last_pick cells refs w m d a =
    (picks_any (λ r e. (cell_named cells r.cell ≡ Some d) × IsComposed w (map_at r e) m) refs).0
    (a.0, a.1, a.2, a.3, (a.4.1.0, a.4.1.1, a.4.1.2, a.4.1.3, (a.4.0, a.4.1.4)))

-- a chain with one more pick
pub chain_more : (cells : List (PlainCell Rings)) (top : PlainCell Rings) (n : ℕ) (w m : Map) (c d : PlainCell Rings)
    (p : Pick)
    → Chain cells top n w c → Contains (picks c.references) p → cell_named cells p.0.cell ≡ Some d
    → IsComposed w (map_at p.0 p.1) m → Chain cells top (suc n) m d
chain_more cells top n w m c d p chain has named whole =
    let P : PlainReference → Point → Type 0 =
    λ r e. (cell_named cells r.cell ≡ Some d) × IsComposed w (map_at r e) m in
    let some : Any (λ r. Any (P r) r.shifts) c.references =
    (picks_any P c.references).1 (has.0, p, has.1, has.2, (named, whole)) in
    (w, c, chain, (some.0, some.1, some.2, some.3, (some.4.4.0, (some.4.0, some.4.1, some.4.2, some.4.3, some.4.4.1))))

-- the first pick of a chain, and the chain that goes on from there
pub record FirstChoice (cells : List (PlainCell Rings)) (c : PlainCell Rings) (n : ℕ) (m : Map)
    (d : PlainCell Rings) : Type 0 where
  pub pick : Pick
  pub next : PlainCell Rings
  pub rest : Map
  pub chosen : Contains (picks c.references) pick
  pub named : cell_named cells pick.0.cell ≡ Some next
  pub chain : Chain cells next n rest d
  pub whole : IsComposed (map_at pick.0 pick.1) rest m

pub first_choice : (cells : List (PlainCell Rings)) (c : PlainCell Rings) (n : ℕ) (m : Map) (d : PlainCell Rings)
    → Chain cells c (suc n) m d → FirstChoice cells c n m d
first_choice cells c zero m d chain =
    let base = chain.2 in
    let a = last_pick cells chain.1.references chain.0 m d chain.3 in
    let place : Map = map_at a.1.0 a.1.1 in
    record {
      pick = a.1;
      next = d;
      rest = unmoved;
      chosen = subst (λ (b : PlainCell Rings). Contains (picks b.references) a.1) base.1 (a.0, a.2, a.3);
      named = a.4.0;
      chain = (refl, refl);
      whole =
          λ q. a.4.1 q
          ∙ (ap (λ (u : Map). image u (image place q)) base.0
          ∙ (image-unmoved (image place q) ∙ sym (ap (image place) (image-unmoved q))));
    }
first_choice cells c (suc n) m d chain =
    let first = first_choice cells c n chain.0 chain.1 chain.2 in
    let a = last_pick cells chain.1.references chain.0 m d chain.3 in
    let place : Map = map_at a.1.0 a.1.1 in
    let begin : Map = map_at first.pick.0 first.pick.1 in
    let rest : Map = composed first.rest place in
    record {
      pick = first.pick;
      next = first.next;
      rest = rest;
      chosen = first.chosen;
      named = first.named;
      chain =
          chain_more cells first.next n first.rest rest chain.1 d a.1 first.chain (a.0, a.2, a.3) a.4.0
          (λ p. image-composed first.rest place p);
      whole = λ q. a.4.1 q ∙ (first.whole (image place q) ∙ ap (image begin) (sym (image-composed first.rest place q)));
    }

-- the image of the origin under two maps
pub composed_at : (m n w : Map) → IsComposed m n w → w.at ≡ image m n.at
composed_at m n w whole = sym (image_of_origin w) ∙ (whole origin ∙ ap (image m) (image_of_origin n))

-- whether a map is in range depends only on the images of points
in_range_alike : (m v : Map) (d : PlainCell Rings) → ((p : Point) → image m p ≡ image v p) → IsInRange each_ring m d
    → IsInRange each_ring v d
in_range_alike m v d same h = record {
  shift = subst FitsPoint (sym (image_of_origin m) ∙ (same origin ∙ image_of_origin v)) h.shift;
  vertices = λ i a li j b lj k e lk l f ll. subst FitsPoint (same _) (h.vertices i a li j b lj k e lk l f ll);
}

pub fits_alike : (cells : List (PlainCell Rings)) (m v : Map) (c : PlainCell Rings)
    → ((p : Point) → image v p ≡ image m p) → FitsUnder cells m c → FitsUnder cells v c
fits_alike cells m v c same h = λ n w d chain u whole. h n w d chain u (λ p. whole p ∙ same (image w p))

-- a cell that is in range, with all that its picks lead to
pub fits_under : (cells : List (PlainCell Rings)) (m : Map) (c : PlainCell Rings) → IsInRange each_ring m c
    → PicksFit cells m (picks c.references) → FitsUnder cells m c
fits_under cells m c here below zero w d chain v whole =
    let same : (p : Point) → image m p ≡ image v p =
    λ p. sym (whole p ∙ ap (image m) (ap (λ (u : Map). image u p) chain.0 ∙ image-unmoved p)) in
    subst (IsInRange each_ring v) (sym chain.1) (in_range_alike m v c same here)
fits_under cells m c here below (suc n) w d chain v whole =
    let first = first_choice cells c n w d chain in
    let map : Map = composed m (map_at first.pick.0 first.pick.1) in
    below first.pick first.next map first.chosen first.named
    (λ p. image-composed m (map_at first.pick.0 first.pick.1) p) n first.rest d first.chain v
    (λ p. whole p
    ∙ (ap (image m) (first.whole p)
    ∙ sym (image-composed m (map_at first.pick.0 first.pick.1) (image first.rest p))))
