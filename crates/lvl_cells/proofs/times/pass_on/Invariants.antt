use Rattle.std.proofs.Common.{drop}
use Rattle.lvl_cells.specs.inside.Times.{IsPassing}
use Rattle.lvl_cells.proofs.times.pass_on.Given as goal

-- the references so far passed on the placements of their cell
abbrev pub invariant-loop-j : goal.invariant-loop-j
invariant-loop-j l = IsPassing l.linked l.i l.here (drop l.j l.cell-inside.references) l.times
