use Rattle.std.proofs.Common.{All, take}
use Rattle.lvl_cells.specs.Cells.{shape_at}
use Rattle.lvl_flat.specs.inside.Bounds.{Widens, HoldsRing}
use Rattle.lvl_flat.proofs.boxes.hold_shape.Given as goal

-- the rings so far are in the box
abbrev pub invariant-loop-j : goal.invariant-loop-j
invariant-loop-j l = record {
  wider : Widens l.fn.bounds l.held;
  held : All (HoldsRing l.held l.shifts) (take l.j (shape_at l.shapes l.i).figure);
}
