use Rattle.std.proofs.Common.{◌≡◌, ◌<◌, ◌≤◌, ◌+◌, ◌++◌, ℕ, length, map, take, vec_len, vec_capacity, slice_index_or}
use Rattle.lvl_grid.specs.declared.point.Point.{Point}
use Rattle.lvl_grid.specs.Turn.{FitsPoint}
use Rattle.lvl_grid.specs.Placed.{placed_point}
use Rattle.lvl_grid.proofs.rings.extend_placed.Given as goal

-- the points so far are followed by their images, and there is room for the others
abbrev pub invariant-loop-point : goal.invariant-loop-point
invariant-loop-point l = record {
  start : l.start ≡ length l.fn.points.items;
  room : l.start + length l.ring ≤ vec_capacity l.points;
  count : vec_len l.points ≡ l.start + l.point-index;
  images : l.points.items ≡ l.fn.points.items ++ map (placed_point l.by l.shift) (take l.point-index l.ring);
  in_range : (k : ℕ) → (d : Point) → k < l.point-index
      → FitsPoint (placed_point l.by l.shift (slice_index_or l.ring k d));
}
