use Rattle.std.proofs.Common.{All}
use Rattle.lvl_flat.specs.Boxes.{HoldsPoint}
use Rattle.lvl_flat.specs.inside.Bounds.{Widens}
use Rattle.lvl_flat.specs.inside.Near.{run_at}
use Rattle.lvl_flat.proofs.near.joined_with.Given as goal

-- the box has the points so far
abbrev pub invariant-loop-k : goal.invariant-loop-k
invariant-loop-k l = record {
  wider : Widens l.fn.bounds l.wider;
  all : All (HoldsPoint l.wider) (run_at l.ring l.begin l.k);
}
