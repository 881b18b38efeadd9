use Rattle.std.proofs.Common.{take}
use Rattle.lvl_region.specs.Grid.{AreRowsOf}
use Rattle.lvl_region.proofs.grid.GridRegionRegion.build.Given as goal

abbrev pub invariant-loop-y : goal.invariant-loop-y
invariant-loop-y l = AreRowsOf l.rings l.xs.items (take l.y-index l.y-items) l.rows.items
