use Rattle.std.proofs.Common.{take}
use Rattle.lvl_cells.specs.Cells.{shape_at}
use Rattle.lvl_flat.specs.declared.scope.Scope.TheVariants.{Everything}
use Rattle.lvl_flat.specs.inside.Drawn.{IsRingDrawn}
use Rattle.lvl_flat.proofs.draw.draw_everywhere.Given as goal

-- the ring is drawn at the shifts so far
abbrev pub invariant-loop-k : goal.invariant-loop-k
invariant-loop-k l =
    IsRingDrawn l.map Everything (take l.k (shape_at l.shapes l.i).shifts) l.ring l.initial.rings l.rings
