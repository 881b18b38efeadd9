use Rattle.std.proofs.Common.{◌≡◌, ◌<◌, ◌≤◌, ℕ, length, get_or}
use Rattle.lvl_corners.specs.declared.digest.LayerHash.{LayerHash}
use Rattle.lvl.specs.Hashes.{IsRightPushed}
use Rattle.lvl.proofs.parts.push_gathered.Given as goal

-- the hashes so far have taken what was gathered, and the others are unchanged
abbrev pub invariant-loop-hash : goal.invariant-loop-hash
invariant-loop-hash l = record {
  pushed : (k : ℕ) (h : LayerHash) → k < l.hash-index → k < length l.hashes
      → IsRightPushed l.span (get_or l.fn.hashes k h) (get_or l.hashes k h);
  rest : (k : ℕ) (h : LayerHash) → l.hash-index ≤ k → k < length l.hashes
      → get_or l.hashes k h ≡ get_or l.fn.hashes k h;
}
