use Rattle.std.proofs.Common.{length, ◌-◌}
use Rattle.lvl_sweep.proofs.Collects.{Collected}
use Rattle.lvl_sweep.proofs.walk.collect_row.Given as goal

abbrev pub invariant-loop-interval : goal.invariant-loop-interval
invariant-loop-interval l = Collected l.active l.fn.windings l.windings l.fn.intervals l.intervals l.position

abbrev pub decreases-loop-interval : goal.decreases-loop-interval
decreases-loop-interval l = length l.active - l.position.at
