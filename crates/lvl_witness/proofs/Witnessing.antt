-- What a witness shows: the top covers the square.
use Rattle.std.proofs.Common.{◌≡◌, ℕ, zero, suc, List, [], length, get_or, slice_get, Option, Some, None}
use Rattle.std.proofs.Common.{Result, Ok, Err, IfOk, IfNone, IsSomeAnd, All, Contains, inl, inr, refl, sym}
use Rattle.std.proofs.Common.{subst}
use Rattle.std.proofs.lemmas.List.Elements.{Contains-get_or}
use Rattle.lvl_grid.specs.declared.point.Point.{Point}
use Rattle.lvl_grid.specs.declared.point.Square.{Square}
use Rattle.lvl_grid.specs.declared.map.Map.{Map}
use Rattle.lvl_grid.specs.Placed.{IsPlaceOfCovered}
use Rattle.lvl_grid.specs.Winding.{SomeCovers}
use Rattle.lvl_grid.proofs.Anyone.{some_contained, Any-nil}
use Rattle.lvl_names.specs.declared.layer.Layer.{Layer}
use Rattle.lvl_names.proofs.Elements.{contains_at}
use Rattle.lvl_cells.specs.Cells.{PlainCell, PlainReference, Rings}
use Rattle.lvl_cells.specs.Chains.{Chain, unmoved}
use Rattle.lvl_cells.specs.Checks.{Settled}
use Rattle.lvl_cells.specs.Coverage.{CellCovers}
use Rattle.lvl_cells.proofs.Sequences.{one_answer}
use Rattle.lvl_flat.specs.Flattened.{TopCovers}
use Rattle.lvl_flat.specs.inside.Drawn.{RingPlacesCover, ShapePlacesCover, ShapesPlaceCover}
use Rattle.lvl_flat.specs.inside.Visits.{Pick, PickCovers}
use Rattle.lvl_flat.proofs.Advancing.{shapes_place, under_unmoved}
use Rattle.lvl_flat.proofs.Covering.{some_is, cell_covers, pick_covers}
use Rattle.lvl_flat.proofs.Picks.{picks_any}
use Rattle.lvl_witness.specs.declared.witness.PlacedRing.{PlacedRing}
use Rattle.lvl_witness.specs.declared.witness.Step.{Step}
use Rattle.lvl_witness.specs.Witnesses.{IsCoveringRing, IsWitness}
use Rattle.lvl_witness.specs.inside.Moves.{FrameCovers}
use Rattle.lvl_witness.specs.inside.Rings.{ShapesCover}
use Rattle.lvl_witness.specs.inside.Searching.{HasNoRing, IsRingOfCell, IsSearch, PlacedCovers}
use Rattle.lvl_witness.proofs.Covering.{covers_begun}

-- what a cell covers at the end of a chain, the cell at its beginning covers
chain_covers : (cells : List (PlainCell Rings)) (top : PlainCell Rings) (layer : Layer) (q : Square) (n : ℕ) (m : Map)
    (d : PlainCell Rings) → Chain cells top n m d → PlacedCovers cells layer q m d
    → CellCovers SomeCovers cells layer top q
chain_covers cells top layer q zero m d chain u =
    let at_top : PlacedCovers cells layer q m top = subst (PlacedCovers cells layer q m) chain.1 u in
    (under_unmoved q (CellCovers SomeCovers cells layer top)).0
    (subst (λ (w : Map). PlacedCovers cells layer q w top) chain.0 at_top)
chain_covers cells top layer q (suc n) m d chain u =
    let w : Map = chain.0 in
    let c : PlainCell Rings = chain.1 in
    let a = chain.3 in
    let r : PlainReference = a.1 in
    let b = a.4.1 in
    let pick : Pick = (r, b.1) in
    let back = (pick_covers cells layer w m q pick d a.4.0 b.4).1 u in
    let picks_cover =
    (picks_any (λ x e. PickCovers cells layer back.0 (x, e)) c.references).0
    (a.0, r, a.2, a.3, (b.0, b.1, b.2, b.3, back.2)) in
    chain_covers cells top layer q n w c chain.2
    (back.0, back.1, (cell_covers cells layer c back.0).1 (inr picks_cover))

-- a ring of a placed cell
ring_covers : (cells : List (PlainCell Rings)) (c : PlainCell Rings) (m : Map) (layers : List Layer) (q : Square)
    (p : PlacedRing) → IsCoveringRing c.shapes m layers q p → PlacedCovers cells p.layer q m c
ring_covers cells c m layers q p h =
    let P : Point → Type 0 = λ e. IsPlaceOfCovered m e h.ring q in
    let places : RingPlacesCover m h.shape.shifts q h.ring =
    some_contained P h.shape.shifts h.shift (contains_at h.shape.shifts p.place h.shift h.shift_is) h.covers in
    let shape : ShapePlacesCover m q h.shape =
    some_contained (RingPlacesCover m h.shape.shifts q) h.shape.figure h.ring
    (contains_at h.shape.figure p.ring h.ring h.ring_is) places in
    let placed : ShapesPlaceCover p.layer m q c.shapes =
    some_contained (λ x. (x.layer ≡ p.layer) × ShapePlacesCover m q x) c.shapes h.shape
    (contains_at c.shapes p.shape h.shape h.shape_is) (sym h.layer_is, shape) in
    let u = (shapes_place p.layer m q c.shapes).0 placed in
    (u.0, u.1, (cell_covers cells p.layer c u.0).1 (inl u.2))

pub witness_covers : (s : Settled) (layers : List Layer) (q : Square) (steps : List Step) (p : PlacedRing)
    → IsWitness s layers q steps p → TopCovers s p.layer q
witness_covers s layers q steps p w =
    let covers : CellCovers SomeCovers s.cells p.layer w.top q =
    chain_covers s.cells w.top p.layer q (length steps) w.map w.cell w.chain
    (ring_covers s.cells w.cell w.map layers q p w.covers) in
    subst (λ o. IsSomeAnd o (λ c. CellCovers SomeCovers s.cells p.layer c q)) (sym w.is_top) covers

-- no own shape of a placed cell covers the square
pub no_ring : (cells : List (PlainCell Rings)) (i : ℕ) (m : Map) (layers : List Layer) (q : Square)
    (c : PlainCell Rings) → slice_get cells i ≡ Some c → (ShapesCover m layers q c.shapes → ⊥)
    → HasNoRing cells i m layers q
no_ring cells i m layers q c at none layer d listed there covers =
    let here : PlacedCovers cells layer q m c = subst (PlacedCovers cells layer q m) (one_answer there at) covers in
    elim (covers_begun cells layer i m q c at here) [
      | inl own ↦
          let a = (shapes_place layer m q c.shapes).1 own in
          absurd (none
          (a.0, a.1, a.2, a.3, (subst (λ l. Contains layers l) (sym a.4.0) listed, a.4.1)))
      | inr far ↦ far
    ]

-- no frame is left
pub none_covers : (s : Settled) (layers : List Layer) (q : Square) (steps : List Step) → IsSearch s layers q [] steps
    → All (λ layer. ¬ TopCovers s layer q) layers
none_covers s layers q steps w k d below covers =
    let layer : Layer = get_or layers k d in
    let found = some_is (λ c. CellCovers SomeCovers s.cells layer c q) (slice_get s.cells s.top) covers in
    let top : CellCovers SomeCovers s.cells layer w.top q =
    subst (λ c. CellCovers SomeCovers s.cells layer c q) (one_answer found.1 w.is_top) found.2 in
    Any-nil (FrameCovers s.cells layer q)
    (w.left.left layer (Contains-get_or layers k d below)
    ((under_unmoved q (CellCovers SomeCovers s.cells layer w.top)).1 top))

-- what follows if nothing is found
pub none_of : {E : Type 0} {X : Type 0} {P Q : Type 0} (r : Result (Option X) E) → IfOk r (λ o. IfNone o P) → (P → Q)
    → IfOk r (λ o. IfNone o Q)
none_of (Ok None) h go = go h
none_of (Ok (Some x)) h go = h
none_of (Err e) h go = h

-- a ring of the top is a witness without steps
pub top_witness : (s : Settled) (layers : List Layer) (q : Square) (p : PlacedRing) (top : PlainCell Rings)
    → slice_get s.cells s.top ≡ Some top → IsRingOfCell s.cells s.top unmoved layers q p
    → IsWitness s layers q [] p
top_witness s layers q p top at ring = record {
  top = top;
  is_top = at;
  map = unmoved;
  cell = top;
  leads = (refl, refl);
  chain = (refl, refl);
  covers = ring top at;
}
