use Rattle.std.proofs.Common.{◌≡◌, ◌<◌, ℕ, ◌-◌}
use Rattle.lvl_path.specs.Runs.{point}
use Rattle.lvl_path.proofs.steps.has_repeated_point.Given as goal

-- any two consecutive points so far differ
abbrev pub invariant-loop-k : goal.invariant-loop-k
invariant-loop-k l = (j : ℕ) → 0 < j → j < l.k → point l.points (j - 1) ≡ point l.points j → ⊥
