use Rattle.std.proofs.Common.{◌<◌, length, set, sym, ap, subst, arith}
use Rattle.lvl_cells.specs.inside.Times.{IsUnderWay}
use Rattle.lvl_cells.proofs.Passing.{under_way_begins, under_way_ends}
use Rattle.lvl_cells.proofs.Sequences.{item_there}
use Rattle.lvl_cells.proofs.times.times_of.Goals as goal

pub loop-i-init : goal.loop-i-init
loop-i-init c =
    let zeros = c.in_ok-times.ensures.items_if_clones_equal (λ y h. h) in
    let top = item_there c.args.linked.now.cells c.args.linked.now.top
    (subst (λ k. k < length c.args.linked.now.cells) c.top.ensures.value c.top.ensures.within) in
    let begun =
    under_way_begins c.args.linked.now top.0 (length c.cells.result.now) c.order-i-end.ensures.sorted top.1
    (ap length c.cells.ensures.value) in
    subst (λ k. IsUnderWay c.args.linked.now 0 (set c.in_ok-times.times.items k 1)) (sym c.top.ensures.value)
    (subst (λ ts. IsUnderWay c.args.linked.now 0 (set ts c.args.linked.now.top 1)) (sym zeros) begun)

pub returns-clause-times : goal.returns-clause-times
returns-clause-times c =
    under_way_ends c.args.linked.now c.loop-i.i c.loop-i.times.items
    (omega (arith, c.loop-i-test.false, ap length c.order-i-end.ensures.value)) c.loop-i.invariant
