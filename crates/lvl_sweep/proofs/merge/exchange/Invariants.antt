use Rattle.lvl_sweep.proofs.Runs.{Exchanged}
use Rattle.lvl_sweep.proofs.merge.exchange.Given as goal

abbrev pub invariant-loop-i : goal.invariant-loop-i
invariant-loop-i l = Exchanged l.fn.edges l.edges l.to l.from l.i
