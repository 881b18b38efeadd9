use Rattle.std.proofs.Common.{◌↔◌, drop, Some, List, subst}
use Rattle.lvl_grid.specs.declared.point.Square.{Square}
use Rattle.lvl_grid.specs.Winding.{SomeCovers}
use Rattle.lvl_cells.specs.Cells.{Rings}
use Rattle.lvl_flat.specs.Sheet.{PlainSheet}
use Rattle.lvl_flat.specs.Sheets.{rings_on}
use Rattle.lvl_compare.specs.Flats.{IsLesser, head_layer}
use Rattle.lvl_compare.proofs.After.{alike_absent, walked_none, walked_more, walked_all, walked_less, lesser_heads}
use Rattle.lvl_changed.specs.declared.area.Area.{Area}
use Rattle.lvl_changed.specs.inside.Shapes.{LayerAlike}
use Rattle.lvl_changed.specs.inside.Areas.{IsIn}
use Rattle.lvl_changed.proofs.Walked.{walked_wider}
use Rattle.lvl_changed.proofs.Growing.{grows_itself, grows_further}
use Rattle.lvl_changed.proofs.shapes.hold_flats.Goals as goal

pub loop-layer-init : goal.loop-layer-init
loop-layer-init c = record {
  walked =
      walked_none (LayerAlike c.args.area.now c.args.ours.now c.args.theirs.now) c.args.ours.now c.args.theirs.now
      (λ l x y s _. alike_absent c.args.ours.now c.args.theirs.now l x y s);
  kept = grows_itself _;
}

pub loop-layer-smaller : goal.loop-layer-smaller
loop-layer-smaller c =
    let lesser : IsLesser (head_layer (drop c.loop-layer.our_place c.args.ours.now))
    (head_layer (drop c.loop-layer.their_place c.args.theirs.now)) (Some c.in-Some.layer) =
    lesser_heads c.args.ours.now c.args.theirs.now c.loop-layer.our_place c.loop-layer.their_place _ _ _ _
    c.layer.ensures.layer c.layer-in-loop-layer.ensures.layer c.lesser.ensures c.in-Some.is in
    rw (c.past-our_place.ensures, c.past-their_place.ensures) (walked_less _ _ c.in-Some.layer lesser)

pub loop-layer-preserved : goal.loop-layer-preserved
loop-layer-preserved c =
    let a : List PlainSheet = c.args.ours.now in
    let b : List PlainSheet = c.args.theirs.now in
    let v : Area = c.loop-layer.area in
    let w : Area = c.hold_rings.new.area in
    let wide = c.in_ok-hold_rings.ensures.kept in
    let same : (s : Square) → (¬ IsIn w c.in-Some.layer s)
    → SomeCovers c.rings-a.result.now s ↔ SomeCovers c.rings-b.result.now s = c.in_ok-hold_rings.ensures.held in
    let alike : LayerAlike w a b c.in-Some.layer =
    λ s out. subst (λ (x : Rings). SomeCovers x s ↔ SomeCovers (rings_on c.in-Some.layer b) s) c.rings-a.ensures
    (subst (λ (y : Rings). SomeCovers c.rings-a.result.now s ↔ SomeCovers y s) c.rings-b.ensures (same s out)) in
    record {
      walked =
          rw (c.past-our_place.ensures, c.past-their_place.ensures)
          (walked_more (LayerAlike w a b) _ _ c.in-Some.layer
          (walked_wider v w a b _ _ wide c.loop-layer.invariant.walked) alike);
      kept = grows_further _ v w c.loop-layer.invariant.kept wide;
    }

pub returns-clause-held : goal.returns-clause-held
returns-clause-held c = λ l s out.
    walked_all (LayerAlike c.loop-layer.area c.args.ours.now c.args.theirs.now)
    (drop c.loop-layer.our_place c.args.ours.now) (drop c.loop-layer.their_place c.args.theirs.now)
    c.loop-layer.invariant.walked
    (lesser_heads c.args.ours.now c.args.theirs.now c.loop-layer.our_place c.loop-layer.their_place _ _ _ _
    c.layer.ensures.layer c.layer-in-loop-layer.ensures.layer c.lesser.ensures c.in_default.is) l s out
