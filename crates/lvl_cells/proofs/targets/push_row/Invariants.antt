use Rattle.std.proofs.Common.{take}
use Rattle.lvl_cells.specs.Cells.{names}
use Rattle.lvl_cells.specs.inside.Targets.{HasTargets}
use Rattle.lvl_cells.proofs.targets.push_row.Given as goal

-- a row has the targets of the references so far
abbrev pub invariant-loop-j : goal.invariant-loop-j
invariant-loop-j l =
    HasTargets (names l.cells) (take l.j l.cell.references) l.fn.runs.items l.runs.items
