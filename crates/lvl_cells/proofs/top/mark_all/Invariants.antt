use Rattle.lvl_cells.proofs.Roots.{AreMarked}
use Rattle.lvl_cells.proofs.top.mark_all.Given as goal

abbrev pub invariant-loop-j : goal.invariant-loop-j
invariant-loop-j l = AreMarked l.fn.marks l.marks l.targets l.j
