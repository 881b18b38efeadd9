use Rattle.lvl_region.proofs.Steps.{rows_none, rows_past}
use Rattle.lvl_region.proofs.grid.difference_on_rows.Goals as goal

pub loop-y-init : goal.loop-y-init
loop-y-init c = record { ours = rows_none _ _; theirs = rows_none _ _ }

pub loop-y-preserved : goal.loop-y-preserved
loop-y-preserved c =
    let left = rw c.deref.ensures.value at c.in_default-difference_on_row.ensures.same_ours in
    let right = rw c.deref-in-Some.ensures.value at c.in_default-difference_on_row.ensures.same_theirs in
    record {
      ours = rows_past _ _ c.args.ours.now c.loop-y.i _ _ c.loop-y.invariant.ours c.step_past-i.ensures.stays
          c.step_past-i.ensures.one c.step_past-i.ensures.only left right;
      theirs = rows_past _ _ c.args.theirs.now c.loop-y.j _ _ c.loop-y.invariant.theirs c.step_past-j.ensures.stays
          c.step_past-j.ensures.one c.step_past-j.ensures.only left right;
    }
