use Rattle.std.proofs.Common.{◌≡◌, ◌<◌, ◌-ℤ◌, All, map, nat_abs}
use Rattle.lvl.specs.Hashes.{below_at, IsHashedTo}
use Rattle.lvl.proofs.hashes.hash_layers.Given as goal

-- the corners at the abscissas so far are hashed
abbrev pub invariant-loop-from : goal.invariant-loop-from
invariant-loop-from l = record {
  layers : map (λ h. h.layer) l.hashes.items ≡ l.layers;
  hashed : All (IsHashedTo l.fitted (below_at l.from l.window.x1)) l.hashes.items;
  wide : 0 < l.pace.width;
}

abbrev pub decreases-loop-from : goal.decreases-loop-from
decreases-loop-from l = nat_abs (l.window.x1 -ℤ l.from)
