use Rattle.std.proofs.Common.{w64, FitsSigned, rules}
use Rattle.std.proofs.lemmas.Int.{to_z-of_z}
use Rattle.lvl_sweep.proofs.Lockstep.{in_step_first, in_step_more, fewer_left}
use Rattle.lvl_sweep.proofs.differ.walk_in_step.Goals as goal

pub loop-square-init : goal.loop-square-init
loop-square-init g c = in_step_first _ _ c.requires.ours c.requires.theirs

pub loop-square-smaller : goal.loop-square-smaller
loop-square-smaller g c =
    let fits : FitsSigned w64 c.in-Alike.y = search rules in
    fewer_left c.loop-square.from (g.B.Bands.left c.loop-square.first) (g.B.Bands.left c.loop-square.second) _ _
    c.in-Alike.y (rw (to_z-of_z w64 _ fits) at c.drop_below.ensures)
    (rw (to_z-of_z w64 _ fits) at c.drop_below-in-Alike.ensures) c.in-Alike.ensures

pub loop-square-preserved : goal.loop-square-preserved
loop-square-preserved g c =
    let fits : FitsSigned w64 c.in-Alike.y = search rules in
    rw (to_z-of_z w64 _ fits) (in_step_more c.loop-square.from (g.B.Bands.left c.args.first.now)
    (g.B.Bands.left c.args.second.now) (g.B.Bands.left c.loop-square.first) (g.B.Bands.left c.loop-square.second) _
    _ c.in-Alike.y (rw (to_z-of_z w64 _ fits) at c.drop_below.ensures)
    (rw (to_z-of_z w64 _ fits) at c.drop_below-in-Alike.ensures) c.loop-square.invariant c.in-Alike.ensures)
