use Rattle.std.proofs.Common.{◌≡◌, ◌*◌, length, take, sum_by}
use Rattle.lvl_cells.specs.Cells.{PlainShape, Rings}
use Rattle.lvl_cells.proofs.counts.rings_of.Given as goal

-- the rings of the shapes so far
abbrev pub invariant-loop-i : goal.invariant-loop-i
invariant-loop-i l =
    l.sum ≡ sum_by (λ (h : PlainShape Rings). length h.figure * length h.shifts) (take l.i l.shapes)
