use Rattle.std.proofs.Common.{take}
use Rattle.lvl_cells.specs.Cells.{shape_at}
use Rattle.lvl_flat.specs.inside.Drawn.{IsFigureDrawn}
use Rattle.lvl_flat.proofs.draw.draw_shape.Given as goal

-- the rings so far are drawn
abbrev pub invariant-loop-j : goal.invariant-loop-j
invariant-loop-j l =
    IsFigureDrawn l.map l.scope (shape_at l.shapes l.i).shifts (take l.j (shape_at l.shapes l.i).figure)
    l.initial.rings l.rings
