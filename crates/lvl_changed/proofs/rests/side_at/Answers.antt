use Rattle.std.proofs.Common.{◌≡◌, subst}
use Rattle.lvl_grid.specs.declared.point.Square.{Square}
use Rattle.lvl_names.specs.declared.layer.Layer.{Layer}
use Rattle.lvl_region.specs.declared.region.Side.{Side}
use Rattle.lvl_region.specs.Region.{IsAlone}
use Rattle.lvl_compare.specs.Pairs.{ours, theirs}
use Rattle.lvl_compare.specs.declared.pair.Pair.{Pair}
use Rattle.lvl_changed.proofs.Lists.{equal_layers, equal_squares}
use Rattle.lvl_changed.proofs.rests.side_at.Goals as goal

pub returns-then-eq-2 : goal.returns-then-eq-2
returns-then-eq-2 c =
    let p : Pair = c.args.pair.now in
    let on : Layer = c.in-Some.on in
    let side : Side = c.in-Some.side in
    let first = rw c.in-Some.is at c.in_ok-found.ensures.differ in
    let layer : on ≡ c.args.layer = equal_layers on c.args.layer c.if-eq.ensures in
    let square : c.in-Some.at ≡ c.args.square = equal_squares c.in-Some.at c.args.square c.if-eq-2.ensures in
    subst (λ (l : Layer). IsAlone (ours p l) (theirs p l) c.args.square side) layer
    (subst (λ (q : Square). IsAlone (ours p on) (theirs p on) q side) square first.alone)
