use Rattle.std.proofs.Common.{◌≡◌, ◌≤◌, ◌+◌, ◌++◌, length, map, take, drop, vec_len, vec_capacity}
use Rattle.lvl_grid.specs.Clip.{put}
use Rattle.lvl_grid.specs.Tidy.{WindsAs}
use Rattle.lvl_grid.proofs.tidy.extend_clipped.Given as goal

-- the points appended so far and the clamped points still to come wind as all clamped points do
abbrev pub invariant-loop-point : goal.invariant-loop-point
invariant-loop-point l = record {
  start : l.start ≡ length l.fn.points.items;
  kept : take l.start l.points.items ≡ l.fn.points.items;
  winds : WindsAs (map (put l.part) l.ring)
      (drop l.start l.points.items ++ map (put l.part) (drop l.point-index l.ring));
  from : l.start ≤ vec_len l.points;
  room : vec_len l.points + length l.ring ≤ vec_capacity l.points + l.point-index;
}
