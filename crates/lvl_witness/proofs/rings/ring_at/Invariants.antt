use Rattle.lvl_cells.specs.Cells.{shape_at}
use Rattle.lvl_witness.specs.inside.Rings.{NoRingBefore}
use Rattle.lvl_witness.proofs.rings.ring_at.Given as goal

-- no ring before this one covers the square
abbrev pub invariant-loop-j : goal.invariant-loop-j
invariant-loop-j l = NoRingBefore l.map l.square (shape_at l.shapes l.i) l.j
