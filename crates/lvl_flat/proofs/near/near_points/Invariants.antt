use Rattle.std.proofs.Common.{◌*◌, ◌-◌, ◌+◌, ◌++◌, drop}
use Rattle.lvl_flat.specs.inside.Near.{WindAlike}
use Rattle.lvl_flat.proofs.near.near_points.Given as goal

-- the points so far, with the ring from the next stretch on, wind as the ring does
abbrev pub invariant-loop-k : goal.invariant-loop-k
invariant-loop-k l = WindAlike l.map l.shift l.window l.ring (l.points.items ++ drop (128 * l.k) l.ring)

abbrev pub decreases-loop-k : goal.decreases-loop-k
decreases-loop-k l = l.count + 1 - l.k
