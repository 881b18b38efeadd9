use Rattle.std.proofs.Common.{w64, pos, rules, get_or, FitsSigned}
use Rattle.std.proofs.lemmas.Int.{to_z-of_z}
use Rattle.lvl_region.proofs.Steps.{row_none, row_step, row_done}
use Rattle.lvl_region.proofs.grid.row_of.Goals as goal

pub loop-x-init : goal.loop-x-init
loop-x-init c = row_none _ c.args.xs.now _ _ c.new-cells.ensures.items

pub loop-x-preserved : goal.loop-x-preserved
loop-x-preserved c =
    let fits : FitsSigned w64 (get_or c.args.xs.now c.loop-x.x-index (pos 0)) = search rules in
    row_step _ c.args.xs.now _ _ _ _ _ _ c.loop-x-test.true c.loop-x.invariant c.in_ok-push.ensures.items
    (to_z-of_z w64 _ fits) c.some_covers.ensures

pub returns : goal.returns
returns c = row_done _ c.args.xs.now _ _ _ _ c.loop-x-test.false (to_z-of_z w64 c.args.y c.ranges.y) c.loop-x.invariant
