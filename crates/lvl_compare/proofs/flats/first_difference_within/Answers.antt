use Rattle.std.proofs.Common.{◌↔◌, drop, Some, subst, Option}
use Rattle.std.specs.Prelude.{IfNone, IfSome}
use Rattle.lvl_grid.specs.declared.point.Square.{Square}
use Rattle.lvl_grid.specs.declared.point.Window.{Window}
use Rattle.lvl_grid.specs.Squares.{IsBefore}
use Rattle.lvl_cells.specs.Cells.{Rings}
use Rattle.lvl_region.specs.declared.region.Side.{Side}
use Rattle.lvl_region.specs.Region.{SomeCovers, IsAlone}
use Rattle.lvl_flat.specs.Sheets.{rings_on}
use Rattle.lvl_columns.specs.Windows.{IsShown, window_of}
use Rattle.lvl_compare.specs.Flats.{AlikeIn, IsLesser, head_layer}
use Rattle.lvl_compare.proofs.After.{alike_absent, sorted_drop, walked_none, walked_more, walked_all, walked_before}
use Rattle.lvl_compare.proofs.After.{walked_less, lesser_heads}
use Rattle.lvl_compare.proofs.flats.first_difference_within.Goals as goal

pub loop-layer-init : goal.loop-layer-init
loop-layer-init c =
    walked_none (AlikeIn (window_of c.args.window) c.args.first.now c.args.second.now) c.args.first.now
    c.args.second.now (λ l x y s _. alike_absent c.args.first.now c.args.second.now l x y s)

pub returns-in-Some-2-clause-differ : goal.returns-in-Some-2-clause-differ
returns-in-Some-2-clause-differ c =
    let w : Option Window = window_of c.args.window in
    let us = drop c.loop-layer.ours c.args.first.now in
    let vs = drop c.loop-layer.theirs c.args.second.now in
    let lesser : IsLesser (head_layer us) (head_layer vs) (Some c.in-Some.layer) =
    lesser_heads c.args.first.now c.args.second.now c.loop-layer.ours c.loop-layer.theirs _ _ _ _ c.layer.ensures.layer
    c.layer-in-loop-layer.ensures.layer c.lesser.ensures c.in-Some.is in
    let alone =
    subst
    (λ (o : Option (Square × Side)).
    IfSome o (λ at. IsAlone (SomeCovers c.rings-a.result.now) (SomeCovers c.rings-b.result.now) at.0 at.1))
    c.in-Some-2.is c.in_ok-square.ensures.differ in
    let least =
    subst
    (λ (o : Option (Square × Side)). IfSome o (λ at. (s : Square) → IsShown w s → IsBefore s at.0
    → SomeCovers c.rings-a.result.now s ↔ SomeCovers c.rings-b.result.now s)) c.in-Some-2.is
    c.in_ok-square.ensures.least in
    record {
      shown =
          subst (λ (o : Option (Square × Side)). IfSome o (λ at. IsShown w at.0)) c.in-Some-2.is
          c.in_ok-square.ensures.shown;
      alone =
          subst
          (λ (x : Rings). IsAlone (SomeCovers x) (SomeCovers (rings_on c.in-Some.layer c.args.second.now))
          c.in-Some-2.square c.in-Some-2.side) c.rings-a.ensures
          (subst
          (λ (y : Rings).
          IsAlone (SomeCovers c.rings-a.result.now) (SomeCovers y) c.in-Some-2.square c.in-Some-2.side)
          c.rings-b.ensures alone);
      least_layer = λ l before. walked_before (AlikeIn w c.args.first.now c.args.second.now) us vs c.in-Some.layer l
          (sorted_drop c.loop-layer.ours c.args.first.now c.layer.ensures.in_order.sorted)
          (sorted_drop c.loop-layer.theirs c.args.second.now c.layer-in-loop-layer.ensures.in_order.sorted)
          c.loop-layer.invariant lesser before;
      least_square =
          λ s there before.
          subst (λ (x : Rings). SomeCovers x s ↔ SomeCovers (rings_on c.in-Some.layer c.args.second.now) s)
          c.rings-a.ensures
          (subst (λ (y : Rings). SomeCovers c.rings-a.result.now s ↔ SomeCovers y s) c.rings-b.ensures
          (least s there before));
    }

pub loop-layer-smaller : goal.loop-layer-smaller
loop-layer-smaller c =
    let lesser : IsLesser (head_layer (drop c.loop-layer.ours c.args.first.now))
    (head_layer (drop c.loop-layer.theirs c.args.second.now)) (Some c.in-Some.layer) =
    lesser_heads c.args.first.now c.args.second.now c.loop-layer.ours c.loop-layer.theirs _ _ _ _ c.layer.ensures.layer
    c.layer-in-loop-layer.ensures.layer c.lesser.ensures c.in-Some.is in
    rw (c.past-ours.ensures, c.past-theirs.ensures) (walked_less _ _ c.in-Some.layer lesser)

pub loop-layer-preserved : goal.loop-layer-preserved
loop-layer-preserved c =
    let w : Option Window = window_of c.args.window in
    let same =
    subst
    (λ (o : Option (Square × Side)). IfNone o
    ((s : Square) → IsShown w s → SomeCovers c.rings-a.result.now s ↔ SomeCovers c.rings-b.result.now s))
    c.in_default-2.is c.in_ok-square.ensures.same in
    let alike : AlikeIn w c.args.first.now c.args.second.now c.in-Some.layer =
    λ s there. subst (λ (x : Rings). SomeCovers x s ↔ SomeCovers (rings_on c.in-Some.layer c.args.second.now) s)
    c.rings-a.ensures
    (subst (λ (y : Rings). SomeCovers c.rings-a.result.now s ↔ SomeCovers y s) c.rings-b.ensures (same s there)) in
    rw (c.past-ours.ensures, c.past-theirs.ensures)
    (walked_more (AlikeIn w c.args.first.now c.args.second.now) _ _ c.in-Some.layer c.loop-layer.invariant alike)

pub returns-clause-same : goal.returns-clause-same
returns-clause-same c =
    walked_all (AlikeIn (window_of c.args.window) c.args.first.now c.args.second.now)
    (drop c.loop-layer.ours c.args.first.now) (drop c.loop-layer.theirs c.args.second.now) c.loop-layer.invariant
    (lesser_heads c.args.first.now c.args.second.now c.loop-layer.ours c.loop-layer.theirs _ _ _ _ c.layer.ensures.layer
    c.layer-in-loop-layer.ensures.layer c.lesser.ensures c.in_default.is)
