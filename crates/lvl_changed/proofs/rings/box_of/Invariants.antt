use Rattle.std.proofs.Common.{take, All}
use Rattle.lvl_flat.specs.Boxes.{HoldsPoint}
use Rattle.lvl_changed.specs.inside.Shapes.{corners}
use Rattle.lvl_changed.proofs.rings.box_of.Given as goal

-- the points so far are between the corners
abbrev pub invariant-loop-point : goal.invariant-loop-point
invariant-loop-point l = All (HoldsPoint (corners l.held)) (take l.point-index l.ring)
