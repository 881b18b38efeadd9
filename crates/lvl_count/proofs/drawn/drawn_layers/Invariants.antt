use Rattle.std.proofs.Common.{take}
use Rattle.lvl_count.specs.inside.Drawing.{HasDrawn}
use Rattle.lvl_count.proofs.drawn.drawn_layers.Given as goal

-- the set has the Layers on which the cells so far have shapes
abbrev pub invariant-loop-cell : goal.invariant-loop-cell
invariant-loop-cell l = HasDrawn l.drawn (take l.cell-index l.cells)
