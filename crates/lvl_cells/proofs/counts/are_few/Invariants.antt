use Rattle.std.proofs.Common.{take}
use Rattle.lvl_cells.specs.inside.Steps.{weigh}
use Rattle.lvl_cells.specs.inside.Times.{IsAddedUp}
use Rattle.lvl_cells.proofs.counts.are_few.Given as goal

-- the sum over the cells so far
abbrev pub invariant-loop-index : goal.invariant-loop-index
invariant-loop-index l =
    IsAddedUp (weigh l.fn.weight) l.linked.cells l.times (take l.index-index l.index-items) l.sum l.fn.most
