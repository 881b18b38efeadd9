-- What a step of the walk keeps.
use Rattle.std.proofs.Common.{◌≡◌, ◌+◌, ℕ, List, length, sum_by, slice_get}
use Rattle.std.proofs.Common.{Option, Some, Any, ◌⊎◌, ◌↔◌, inl, inr, sym, ap, subst, ◌∙◌}
use Rattle.std.specs.Option.{option_map_or}
use Rattle.std.proofs.lemmas.List.Sums.{sum_by-cons}
use Rattle.lvl_grid.specs.declared.point.Square.{Square}
use Rattle.lvl_grid.specs.declared.map.Map.{Map}
use Rattle.lvl_grid.specs.Turn.{image_square}
use Rattle.lvl_grid.specs.Winding.{SomeCovers}
use Rattle.lvl_names.specs.declared.layer.Layer.{Layer}
use Rattle.lvl_cells.specs.Cells.{PlainCell, PlainReference, Rings, cell_named}
use Rattle.lvl_cells.specs.Chains.{over_chains}
use Rattle.lvl_cells.specs.Coverage.{ShapeCovers, CellCovers}
use Rattle.lvl_cells.specs.Soundness.{AreLinked, IsOrder}
use Rattle.lvl_cells.proofs.Summing.{count_step}
use Rattle.lvl_flat.specs.declared.visit.Visit.{Visit}
use Rattle.lvl_flat.specs.inside.Visits.{Pick, picks, pending, pick_weight, visit_weight, PickCovers, VisitCovers}
use Rattle.lvl_flat.specs.inside.Steps.{IsInto}
use Rattle.lvl_flat.specs.inside.Entering.{begun}
use Rattle.lvl_grid.proofs.Anyone.{Any-head, Any-tail, Any-uncons}
use Rattle.lvl_flat.proofs.Picks.{picks_from_start, picks_sum}
use Rattle.lvl_flat.proofs.Covering.{Under, under_either, under_same, cell_covers, pick_covers}
use Rattle.lvl_flat.proofs.Stepping.{pending_at}

-- a sum of weights over the chains from a cell: its own, and that of a visit that has followed no reference yet
pub weight_begun : (w : PlainCell Rings → ℕ) (cells : List (PlainCell Rings)) (order : List ℕ) (i : ℕ) (m : Map)
    (c : PlainCell Rings) → AreLinked cells → IsOrder cells order → slice_get cells i ≡ Some c
    → over_chains w cells (length cells) c ≡ w c + visit_weight w cells (begun i m)
weight_begun w cells order i m c linked ordered at =
    let f : PlainReference → ℕ = λ r. option_map_or (over_chains w cells (length cells)) (cell_named cells r.cell) 0 in
    count_step w cells order i c linked ordered at
    ∙ ap (λ n. w c + n) (picks_sum f c.references
    ∙ ap (sum_by (pick_weight w cells))
    (sym (pending_at cells (begun i m) c at ∙ picks_from_start c.references)))

-- a sum of weights of a visit: that of its next pick, and that of the rest
pub weight_into : (w : PlainCell Rings → ℕ) (cells : List (PlainCell Rings)) (v : Visit) (i : ℕ) (m : Map)
    (rest : Visit) → (into : IsInto cells v i m rest)
    → visit_weight w cells v ≡ over_chains w cells (length cells) into.next + visit_weight w cells rest
weight_into w cells v i m rest into =
    let o : Option (PlainCell Rings) → ℕ = λ q. option_map_or (over_chains w cells (length cells)) q 0 in
    ap (sum_by (pick_weight w cells)) into.pending_is
    ∙ (sum_by-cons (pick_weight w cells) into.pick (pending cells rest)
    ∙ ap (λ n. n + visit_weight w cells rest) (ap o into.named))

-- a visit that has followed no reference yet covers what its cell does through references
pub visit_begun : (cells : List (PlainCell Rings)) (layer : Layer) (i : ℕ) (m : Map) (q : Square) (c : PlainCell Rings)
    → slice_get cells i ≡ Some c
    → Under m q (CellCovers SomeCovers cells layer c)
    ↔ (Under m q (λ t. Any (ShapeCovers SomeCovers layer t) c.shapes) ⊎ VisitCovers cells layer q (begun i m))
visit_begun cells layer i m q c at =
    let all : pending cells (begun i m) ≡ picks c.references =
    pending_at cells (begun i m) c at ∙ picks_from_start c.references in
    let step =
    under_same m q (CellCovers SomeCovers cells layer c)
    (λ t. Any (ShapeCovers SomeCovers layer t) c.shapes ⊎ Any (PickCovers cells layer t) (picks c.references))
    (cell_covers cells layer c) in
    let split =
    under_either m q (λ t. Any (ShapeCovers SomeCovers layer t) c.shapes)
    (λ t. Any (PickCovers cells layer t) (picks c.references)) in (
      λ u. elim (split.0 (step.0 u))
          [ inl a ↦ inl a | inr b ↦ inr (b.0, b.1, subst (Any (PickCovers cells layer b.0)) (sym all) b.2) ],
      λ e. step.1
          (split.1
          (elim e [ inl a ↦ inl a | inr b ↦ inr (b.0, b.1, subst (Any (PickCovers cells layer b.0)) all b.2) ])),
    )

-- a visit covers what its next pick does, and what the rest does
pub visit_into : (cells : List (PlainCell Rings)) (layer : Layer) (v : Visit) (i : ℕ) (m : Map) (rest : Visit)
    (q : Square) → (into : IsInto cells v i m rest)
    → VisitCovers cells layer q v
    ↔ (Under m q (CellCovers SomeCovers cells layer into.next) ⊎ VisitCovers cells layer q rest)
visit_into cells layer v i m rest q into =
    let P : Square → Pick → Type 0 = λ t p. PickCovers cells layer t p in
    let pick = pick_covers cells layer v.map m q into.pick into.next into.named into.placed in (
      λ u.
          elim (Any-uncons (P u.0) into.pick (pending cells rest) (subst (Any (P u.0)) into.pending_is u.2)) [
            | inl a ↦ inl (pick.0 (u.0, u.1, a))
            | inr b ↦ inr (u.0, ap (λ n. image_square n u.0) into.map_is ∙ u.1, b)
          ],
      λ e.
          elim e [
            | inl a ↦
                let u = pick.1 a in (
                  u.0,
                  u.1,
                  subst (Any (P u.0)) (sym into.pending_is) (Any-head (P u.0) into.pick (pending cells rest) u.2),
                )
            | inr b ↦ (
              b.0,
              sym (ap (λ n. image_square n b.0) into.map_is) ∙ b.1,
              subst (Any (P b.0)) (sym into.pending_is) (Any-tail (P b.0) into.pick (pending cells rest) b.2),
            )
          ],
    )
