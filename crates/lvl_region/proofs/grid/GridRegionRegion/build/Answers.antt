use Rattle.std.proofs.Common.{w64, rules, FitsSigned, get_or, pos}
use Rattle.std.proofs.lemmas.Int.{to_z-of_z}
use Rattle.lvl_region.proofs.Steps.{built_none, built_step, built_done}
use Rattle.lvl_region.proofs.Cells.{marks_right}
use Rattle.lvl_region.proofs.grid.GridRegionRegion.build.Goals as goal

pub loop-y-init : goal.loop-y-init
loop-y-init c = built_none _ _ c.deref-y-items.result.now _ c.new-rows.ensures.items

pub loop-y-preserved : goal.loop-y-preserved
loop-y-preserved c =
    let fits : FitsSigned w64 (get_or c.deref-y-items.result.now c.loop-y.y-index (pos 0)) = search rules in
    built_step _ _ c.deref-y-items.result.now _ _ _ _ _ c.loop-y-test.true c.loop-y.invariant c.in_ok-push.ensures.items
    (to_z-of_z w64 _ fits) (rw c.deref.ensures.value at c.in_ok-row_of.ensures)

pub returns : goal.returns
returns c =
    marks_right c.args.rings.now c.in_ok-xs.xs.items c.in_ok-ys.ys.items c.loop-y.rows.items c.in_ok-xs.ensures
    c.in_ok-ys.ensures
    (rw c.deref-y-items.ensures.value at (built_done _ _ c.deref-y-items.result.now _ _ c.loop-y-test.false
    c.loop-y.invariant))
