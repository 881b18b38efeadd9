use Rattle.std.proofs.Common.{◌≡◌, ◌≤◌, take, drop, vec_len}
use Rattle.lvl_grid.specs.Tidy.{WindsAs}
use Rattle.lvl_grid.proofs.tidy.close_tidied.Given as goal

abbrev pub invariant-loop-points : goal.invariant-loop-points
invariant-loop-points l = record {
  kept : take l.start l.points.items ≡ take l.start l.fn.points.items;
  winds : WindsAs (drop l.start l.fn.points.items) (drop l.start l.points.items);
  from : l.start ≤ vec_len l.points;
}

abbrev pub decreases-loop-points : goal.decreases-loop-points
decreases-loop-points l = vec_len l.points
