use Rattle.std.proofs.Common.{◌≡◌, take}
use Rattle.lvl_cells.proofs.moved.MovedRing.to_points.Given as goal

-- the points so far, and there is room for all
abbrev pub invariant-loop-k : goal.invariant-loop-k
invariant-loop-k l = l.points.items ≡ take l.k l.self
