use Rattle.lvl_cells.specs.inside.Times.{IsUnderWay}
use Rattle.lvl_cells.proofs.times.times_of.Given as goal

-- the cells of the order so far passed on their placements
abbrev pub invariant-loop-i : goal.invariant-loop-i
invariant-loop-i l = IsUnderWay l.linked l.i l.times.items
