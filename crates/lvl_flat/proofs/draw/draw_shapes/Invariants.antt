use Rattle.std.proofs.Common.{take}
use Rattle.lvl_flat.specs.inside.Drawn.{AreDrawn}
use Rattle.lvl_flat.proofs.draw.draw_shapes.Given as goal

-- the shapes so far are drawn
abbrev pub invariant-loop-i : goal.invariant-loop-i
invariant-loop-i l = AreDrawn l.map l.scope (take l.i l.shapes) l.initial.sheets.items l.sheets.items
