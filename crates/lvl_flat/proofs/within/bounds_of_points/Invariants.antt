use Rattle.std.proofs.Common.{All, take}
use Rattle.lvl_flat.specs.Boxes.{HoldsPoint}
use Rattle.lvl_flat.proofs.within.bounds_of_points.Given as goal

-- the points so far are in the box
abbrev pub invariant-loop-k : goal.invariant-loop-k
invariant-loop-k l = All (HoldsPoint l.bounds) (take l.k l.ring)
