use Rattle.std.proofs.Common.{◌<◌, ◌≤◌, ◌-◌, ◌+◌, ◌*◌, All}
use Rattle.lvl_flat.specs.Boxes.{HoldsPoint}
use Rattle.lvl_flat.specs.inside.Near.{run_at, IsPlacedBeside}
use Rattle.lvl_flat.proofs.near.end_beside.Given as goal

-- the stretches so far are in a box that is placed on one side of the window
abbrev pub invariant-loop-end : goal.invariant-loop-end
invariant-loop-end l = record {
  order : l.k < l.end;
  within : l.end ≤ l.count;
  few : l.step ≤ 64;
  all : All (HoldsPoint l.bounds) (run_at l.ring l.k l.end);
  beside : IsPlacedBeside l.map l.shift l.window l.bounds;
}

abbrev pub decreases-loop-end : goal.decreases-loop-end
decreases-loop-end l = 128 * (l.count - l.end) + l.step
