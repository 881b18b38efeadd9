use Rattle.std.proofs.Common.{◌≡◌, ◌≤◌, ◌-◌, ◌*◌, ◌++◌, length, vec_len, vec_capacity}
use Rattle.gds_elements.specs.Values.{points_of}
use Rattle.gds_elements.proofs.values.points.Given as goal

abbrev pub invariant-loop : goal.invariant-loop
invariant-loop l = record {
  room : l.end ≤ vec_capacity l.points;
  count : vec_len l.points ≡ l.counter;
  enough : 8 * (l.end - l.counter) ≤ length l.rest;
  points : l.points.items ++ points_of (l.end - l.counter) l.rest ≡ points_of l.end l.payload;
}
