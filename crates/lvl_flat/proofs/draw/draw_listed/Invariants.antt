use Rattle.std.proofs.Common.{take}
use Rattle.lvl_flat.specs.inside.Drawn.{AreDrawnAt}
use Rattle.lvl_flat.proofs.draw.draw_listed.Given as goal

-- the shapes with the indexes so far are drawn
abbrev pub invariant-loop-place : goal.invariant-loop-place
invariant-loop-place l =
    AreDrawnAt l.map l.scope l.shapes (take l.place l.list) l.initial.sheets.items l.sheets.items
