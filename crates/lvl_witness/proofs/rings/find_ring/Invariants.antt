use Rattle.lvl_witness.specs.inside.Rings.{NoShapeBefore}
use Rattle.lvl_witness.proofs.rings.find_ring.Given as goal

-- no shape before this one is on one of the Layers and covers the square
abbrev pub invariant-loop-shape : goal.invariant-loop-shape
invariant-loop-shape l = NoShapeBefore l.map l.layers l.square l.shapes l.shape
