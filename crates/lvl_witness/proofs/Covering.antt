-- What frames cover.
use Rattle.std.proofs.Common.{◌≡◌, ◌+◌, ℕ, List, ◌∷◌, length, sum_by, slice_get, Option, Some, Any, ◌⊎◌, inl}
use Rattle.std.proofs.Common.{inr, sym, ap, subst, ◌∙◌}
use Rattle.std.specs.Option.{option_map_or}
use Rattle.std.proofs.lemmas.List.Sums.{sum_by-cons}
use Rattle.lvl_grid.specs.declared.point.Square.{Square}
use Rattle.lvl_grid.specs.declared.map.Map.{Map}
use Rattle.lvl_grid.specs.Turn.{image_square}
use Rattle.lvl_grid.specs.Winding.{SomeCovers}
use Rattle.lvl_grid.proofs.Anyone.{Any-uncons}
use Rattle.lvl_names.specs.declared.layer.Layer.{Layer}
use Rattle.lvl_cells.specs.Cells.{PlainCell, PlainReference, Rings, map_at, cell_named}
use Rattle.lvl_cells.specs.Chains.{IsComposed, over_chains}
use Rattle.lvl_cells.specs.Coverage.{ShapeCovers}
use Rattle.lvl_cells.specs.Soundness.{AreLinked, IsOrder}
use Rattle.lvl_cells.proofs.Summing.{count_step}
use Rattle.lvl_flat.specs.inside.Visits.{Pick, picks, pick_weight, PickCovers}
use Rattle.lvl_flat.proofs.Covering.{Under, cell_covers, pick_covers}
use Rattle.lvl_flat.proofs.Picks.{pick_next, picks_from_start, picks_sum}
use Rattle.lvl_witness.specs.declared.frame.Frame.{Frame}
use Rattle.lvl_witness.specs.declared.witness.Step.{Step}
use Rattle.lvl_witness.specs.inside.Moves.{begun, at_place, pending, frame_weight, FrameCovers, Enters}
use Rattle.lvl_witness.specs.inside.Searching.{PlacedCovers}
use Rattle.lvl_witness.proofs.Skipping.{pending_at}

-- a frame that begins has all of its cell's references to follow
begun_pending : (cells : List (PlainCell Rings)) (i : ℕ) (m : Map) (c : PlainCell Rings) → slice_get cells i ≡ Some c
    → pending cells (begun i m) ≡ picks c.references
begun_pending cells i m c at = pending_at cells (begun i m) c at ∙ picks_from_start c.references

-- what a placed cell covers, its own shapes cover, or a frame that begins with it has still to cover
pub covers_begun : (cells : List (PlainCell Rings)) (layer : Layer) (i : ℕ) (m : Map) (q : Square)
    (c : PlainCell Rings) → slice_get cells i ≡ Some c → PlacedCovers cells layer q m c
    → Under m q (λ t. Any (ShapeCovers SomeCovers layer t) c.shapes) ⊎ FrameCovers cells layer q (begun i m)
covers_begun cells layer i m q c at u =
    elim ((cell_covers cells layer c u.0).0 u.2) [
      | inl own ↦ inl (u.0, u.1, own)
      | inr far ↦ inr (u.0, u.1, subst (Any (PickCovers cells layer u.0)) (sym (begun_pending cells i m c at)) far)
    ]

-- the pick that a frame follows
pub entered : (cells : List (PlainCell Rings)) (q : Square) (f : Frame) (step : Step) (m : Map) (rest : Frame)
    → (e : Enters cells q f step m rest)
    → pending cells (at_place f step.place) ≡ (e.leads.reference, e.leads.shift) ∷ pending cells rest
entered cells q f step m rest e =
    let r : PlainReference = e.leads.reference in
    let there : slice_get e.cell.references f.reference ≡ Some r =
    subst (λ j. slice_get e.cell.references j ≡ Some r) e.reference_is e.leads.reference_is in
    pending_at cells (at_place f step.place) e.cell e.there
    ∙ (pick_next e.cell.references f.reference step.place r e.leads.shift there e.leads.shift_is
    ∙ ap (λ ps. (r, e.leads.shift) ∷ ps)
    (sym (ap (pending cells) e.rest_is ∙ pending_at cells (at_place f (step.place + 1)) e.cell e.there)))

-- what a frame has still to cover, the cell that it enters covers, or the rest of the frame
pub covers_entered : (cells : List (PlainCell Rings)) (layer : Layer) (q : Square) (f : Frame) (step : Step) (m : Map)
    (rest : Frame) → (e : Enters cells q f step m rest) → FrameCovers cells layer q f
    → PlacedCovers cells layer q m e.next ⊎ FrameCovers cells layer q rest
covers_entered cells layer q f step m rest e covers =
    let u = e.skipped.covers layer covers in
    let pick : Pick = (e.leads.reference, e.leads.shift) in
    let P : Pick → Type 0 = PickCovers cells layer u.0 in
    let whole : IsComposed f.map (map_at e.leads.reference e.leads.shift) m =
    subst (λ (w : Map). IsComposed f.map w m) e.leads.map_is e.leads.composed in
    elim (Any-uncons P pick (pending cells rest) (subst (Any P) (entered cells q f step m rest e) u.2)) [
      | inl here ↦ inl ((pick_covers cells layer f.map m q pick e.next e.leads.named whole).0 (u.0, u.1, here))
      | inr later ↦ inr (u.0, ap (λ (g : Frame). image_square g.map u.0) e.rest_is ∙ u.1, later)
    ]

-- the weight of a cell that begins
pub weight_begun : (w : PlainCell Rings → ℕ) (cells : List (PlainCell Rings)) (order : List ℕ) (i : ℕ) (m : Map)
    (c : PlainCell Rings) → AreLinked cells → IsOrder cells order → slice_get cells i ≡ Some c
    → over_chains w cells (length cells) c ≡ w c + frame_weight w cells (begun i m)
weight_begun w cells order i m c linked ordered at =
    let f : PlainReference → ℕ = λ r. option_map_or (over_chains w cells (length cells)) (cell_named cells r.cell) 0 in
    count_step w cells order i c linked ordered at
    ∙ ap (λ n. w c + n) (picks_sum f c.references
    ∙ ap (sum_by (pick_weight w cells)) (sym (begun_pending cells i m c at)))

-- the weight of a frame that enters a cell
pub weight_entered : (w : PlainCell Rings → ℕ) (cells : List (PlainCell Rings)) (q : Square) (f : Frame) (step : Step)
    (m : Map) (rest : Frame) → (e : Enters cells q f step m rest)
    → frame_weight w cells (at_place f step.place)
    ≡ over_chains w cells (length cells) e.next + frame_weight w cells rest
weight_entered w cells q f step m rest e =
    let o : Option (PlainCell Rings) → ℕ = λ x. option_map_or (over_chains w cells (length cells)) x 0 in
    ap (sum_by (pick_weight w cells)) (entered cells q f step m rest e)
    ∙ (sum_by-cons (pick_weight w cells) (e.leads.reference, e.leads.shift) (pending cells rest)
    ∙ ap (λ n. n + frame_weight w cells rest) (ap o e.leads.named))
