use Rattle.lvl_sweep.proofs.Lockstep.{same_rings, alone_rings, least_rings}
use Rattle.lvl_sweep.proofs.differ.first_difference_up_to.Goals as goal

pub returns-clause-same : goal.returns-clause-same
returns-clause-same g c =
    same_rings c.walk_in_step.result c.args.last (g.R.RingList.rings c.args.first.now)
    (g.R.RingList.rings c.args.second.now) _ _ c.in_ok-a.ensures.bands c.in_ok-b.ensures.bands
    c.walk_in_step.ensures.same

pub returns-clause-differ : goal.returns-clause-differ
returns-clause-differ g c =
    alone_rings c.walk_in_step.result (g.R.RingList.rings c.args.first.now) (g.R.RingList.rings c.args.second.now) _ _
    c.in_ok-a.ensures.bands c.in_ok-b.ensures.bands c.walk_in_step.ensures.differ

pub returns-clause-least : goal.returns-clause-least
returns-clause-least g c =
    least_rings c.walk_in_step.result (g.R.RingList.rings c.args.first.now) (g.R.RingList.rings c.args.second.now) _ _
    c.in_ok-a.ensures.bands c.in_ok-b.ensures.bands c.walk_in_step.ensures.differ
