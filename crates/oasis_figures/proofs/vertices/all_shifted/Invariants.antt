use Rattle.std.proofs.Common.{◌≡◌, ◌<◌, length, map, take, ℕ, ◌≤◌, vec_len, vec_capacity, slice_index_or}
use Rattle.lvl_grid.specs.declared.point.Point.{Point}
use Rattle.lvl_grid.specs.Turn.{FitsPoint, shifted}
use Rattle.oasis_figures.proofs.vertices.all_shifted.Given as goal

-- the points so far are moved, in order, and there is capacity for the others
abbrev pub invariant-loop-point : goal.invariant-loop-point
invariant-loop-point l = record {
  room : length l.points ≤ vec_capacity l.vertices;
  count : vec_len l.vertices ≡ l.point-index;
  moved : l.vertices.items ≡ map (shifted l.by) (take l.point-index l.points);
  in_range : (k : ℕ) → (d : Point) → k < l.point-index → FitsPoint (shifted l.by (slice_index_or l.points k d));
}
