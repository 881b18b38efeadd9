use Rattle.std.proofs.Common.{◌≡◌, map, take}
use Rattle.lvl_count.specs.Listed.{listed_as}
use Rattle.lvl_count.proofs.listed.listed_cells.Given as goal

-- the cells so far are listed
abbrev pub invariant-loop-cell : goal.invariant-loop-cell
invariant-loop-cell l = l.list.items ≡ map (listed_as l.cells) (take l.cell-index l.cells)
