use Rattle.std.proofs.Common.{◌≡◌, ◌<◌, ℕ, ◌+◌}
use Rattle.lvl_path.specs.Ways.{opposite}
use Rattle.lvl_path.specs.Runs.{way_into}
use Rattle.lvl_path.proofs.steps.turns_back.Given as goal

-- no step so far has the opposite direction of the step before it
abbrev pub invariant-loop-k : goal.invariant-loop-k
invariant-loop-k l = (j : ℕ) → 0 < j → j + 1 < l.k → way_into l.points (j + 1) ≡ opposite (way_into l.points j) → ⊥
