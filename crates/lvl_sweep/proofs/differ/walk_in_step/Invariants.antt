use Rattle.std.proofs.Common.{length, ◌+◌}
use Rattle.lvl_sweep.proofs.Lockstep.{InStep}
use Rattle.lvl_sweep.proofs.differ.walk_in_step.Given as goal

abbrev pub invariant-loop-square : goal.invariant-loop-square
invariant-loop-square g l =
    InStep l.from (g.B.Bands.left l.fn.first) (g.B.Bands.left l.fn.second) (g.B.Bands.left l.first)
    (g.B.Bands.left l.second)

abbrev pub decreases-loop-square : goal.decreases-loop-square
decreases-loop-square g l = length (g.B.Bands.left l.first) + length (g.B.Bands.left l.second)
