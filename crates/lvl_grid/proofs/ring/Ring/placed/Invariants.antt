use Rattle.std.proofs.Common.{◌≡◌, ◌<◌, length, map, take, ℕ, ◌≤◌, vec_len, vec_capacity, slice_index_or}
use Rattle.lvl_grid.specs.declared.point.Point.{Point}
use Rattle.lvl_grid.specs.Turn.{FitsPoint}
use Rattle.lvl_grid.specs.Placed.{placed_point}
use Rattle.lvl_grid.proofs.ring.Ring.placed.Given as goal

-- the points so far are the images, in order, and there is room for the others
abbrev pub invariant-loop-point : goal.invariant-loop-point
invariant-loop-point l = record {
  room : length l.point-items ≤ vec_capacity l.points;
  count : vec_len l.points ≡ l.point-index;
  images : l.points.items ≡ map (placed_point l.by l.shift) (take l.point-index l.point-items);
  in_range : (k : ℕ) → (d : Point) → k < l.point-index
      → FitsPoint (placed_point l.by l.shift (slice_index_or l.point-items k d));
}
