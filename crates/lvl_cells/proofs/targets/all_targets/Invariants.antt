use Rattle.std.proofs.Common.{take}
use Rattle.lvl_cells.specs.Cells.{names}
use Rattle.lvl_cells.specs.inside.Rows.{spread_rows, AreRows}
use Rattle.lvl_cells.proofs.Missing.{AreTargetsOf}
use Rattle.lvl_cells.proofs.targets.all_targets.Given as goal

-- the rows so far have the targets of the cells so far
abbrev pub invariant-loop-cell : goal.invariant-loop-cell
invariant-loop-cell l = record {
  rows : AreRows l.ends.items l.runs.items;
  targets : AreTargetsOf (names l.cells) (take l.cell-index l.cells) (spread_rows l.ends.items l.runs.items);
}
