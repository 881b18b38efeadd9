use Rattle.std.proofs.Common.{◌≡◌, ◌<◌, ◌-ℤ◌, ℕ, length, map, get_or, nat_abs}
use Rattle.lvl_corners.specs.declared.digest.LayerHash.{LayerHash}
use Rattle.lvl_corners.specs.Gathered.{IsLowered}
use Rattle.lvl.specs.Hashes.{below_at, IsGathering}
use Rattle.lvl.proofs.parts.gather_parts.Given as goal

-- the corners at the ordinates so far are hashed, or gathered
abbrev pub invariant-loop-y : goal.invariant-loop-y
invariant-loop-y l = record {
  layers : map (λ h. h.layer) l.hashes ≡ l.layers;
  gathered : (k : ℕ) (h : LayerHash) → k < length l.fn.hashes
      → IsGathering l.fitted l.window l.from l.stop (below_at l.y l.window.y1) (get_or l.fn.hashes k h)
      (get_or l.hashes k h);
  lowered : IsLowered l.from l.end l.stop;
  wide : 0 < l.pace.width;
}

abbrev pub decreases-loop-y : goal.decreases-loop-y
decreases-loop-y l = nat_abs (l.window.y1 -ℤ l.y)
