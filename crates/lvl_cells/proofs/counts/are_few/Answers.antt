use Rattle.std.proofs.Common.{refl}
use Rattle.lvl_cells.specs.inside.Steps.{weigh}
use Rattle.lvl_cells.proofs.Adding.{one_more, one_too_many}
use Rattle.lvl_cells.proofs.counts.are_few.Goals as goal

pub returns-in_default-clause-many : goal.returns-in_default-clause-many
returns-in_default-clause-many c = λ _.
    one_too_many (weigh c.args.weight) c.args.linked.now c.args.times.now c.order-index-items.result.now
    c.cells.result.now c.loop-index.index-index c.loop-index.sum c.args.most c.index-cells-index.result c.requires
    c.order-index-items.ensures.sorted c.order-index-items.ensures.value c.cells.ensures.value c.loop-index-test.true
    c.index-cells-index.is c.loop-index.invariant (c.in_default.ensures.many refl)

pub loop-index-preserved : goal.loop-index-preserved
loop-index-preserved c =
    one_more (weigh c.args.weight) c.args.linked.now c.args.times.now c.order-index-items.result.now c.cells.result.now
    c.loop-index.index-index c.loop-index.sum c.in-Some.all c.args.most c.index-cells-index.result
    c.order-index-items.ensures.sorted c.order-index-items.ensures.value c.cells.ensures.value c.loop-index-test.true
    c.index-cells-index.is c.loop-index.invariant c.in-Some.ensures.value c.in-Some.ensures.few
