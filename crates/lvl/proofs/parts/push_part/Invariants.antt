use Rattle.std.proofs.Common.{◌≡◌, ◌<◌, ◌≤◌, ℕ, length, get_or}
use Rattle.lvl_corners.specs.declared.digest.LayerHash.{LayerHash}
use Rattle.lvl_corners.specs.Gathered.{IsLowered}
use Rattle.lvl.specs.Hashes.{IsPartPushed}
use Rattle.lvl.proofs.parts.push_part.Given as goal

-- the hashes so far have taken their corners, and the others are unchanged
abbrev pub invariant-loop-hash : goal.invariant-loop-hash
invariant-loop-hash l = record {
  pushed : (k : ℕ) (h : LayerHash) → k < l.hash-index → k < length l.hashes
      → IsPartPushed l.flat l.x l.stop l.rows (get_or l.fn.hashes k h) (get_or l.hashes k h);
  rest : (k : ℕ) (h : LayerHash) → l.hash-index ≤ k → k < length l.hashes
      → get_or l.hashes k h ≡ get_or l.fn.hashes k h;
  lowered : IsLowered l.x l.end l.stop;
}
