use Rattle.std.proofs.Common.{take}
use Rattle.lvl_region.specs.Grid.{IsRowOf}
use Rattle.lvl_region.proofs.grid.row_of.Given as goal

abbrev pub invariant-loop-x : goal.invariant-loop-x
invariant-loop-x l = IsRowOf l.rings (take l.x-index l.xs) l.y l.cells.items
