use Rattle.std.proofs.Common.{◌≡◌, ◌++◌, flat_map, take}
use Rattle.lvl_report.specs.Texts.{cell_line}
use Rattle.lvl_report.proofs.list.push_cells.Given as goal

abbrev pub invariant-loop-cell : goal.invariant-loop-cell
invariant-loop-cell l = l.text.items ≡ l.fn.text.items ++ flat_map cell_line (take l.cell-index l.cells)
