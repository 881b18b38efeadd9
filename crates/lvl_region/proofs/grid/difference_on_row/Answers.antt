use Rattle.lvl_region.proofs.Steps.{agree_none, agree_past}
use Rattle.lvl_region.proofs.grid.difference_on_row.Goals as goal

pub loop-x-init : goal.loop-x-init
loop-x-init c = record { ours = agree_none _ _ _; theirs = agree_none _ _ _ }

pub loop-x-preserved : goal.loop-x-preserved
loop-x-preserved c = record {
  ours = agree_past _ _ c.args.ours.now c.loop-x.i _ _ _ c.loop-x.invariant.ours c.step_past-i.ensures.stays
      c.step_past-i.ensures.one c.step_past-i.ensures.only c.in_default-side_at.ensures.same;
  theirs = agree_past _ _ c.args.theirs.now c.loop-x.j _ _ _ c.loop-x.invariant.theirs c.step_past-j.ensures.stays
      c.step_past-j.ensures.one c.step_past-j.ensures.only c.in_default-side_at.ensures.same;
}
