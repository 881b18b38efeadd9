use Rattle.std.proofs.Common.{◌-◌, length}
use Rattle.lvl_sweep.proofs.Walks.{Looked}
use Rattle.lvl_sweep.proofs.walk.pass_until.Given as goal

abbrev pub invariant-loop-position : goal.invariant-loop-position
invariant-loop-position l = Looked l.active l.wanted l.fn.position l.position l.fn.windings l.windings

abbrev pub decreases-loop-position : goal.decreases-loop-position
decreases-loop-position l = length l.active - l.position.at
