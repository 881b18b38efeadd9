use Rattle.std.proofs.Common.{◌≡◌, ◌-◌, ◌++◌, take, drop}
use Rattle.lvl_flat.proofs.near.push_points.Given as goal

-- the points so far are appended
abbrev pub invariant-loop-i : goal.invariant-loop-i
invariant-loop-i l = l.points.items ≡ l.initial.points.items ++ take (l.i - l.initial.i) (drop l.initial.i l.ring)
