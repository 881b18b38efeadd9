use Rattle.std.proofs.Common.{◌<◌, ℕ, ◌-◌}
use Rattle.lvl_grid.specs.Winding.{IsStraight}
use Rattle.lvl_path.specs.Runs.{point}
use Rattle.lvl_path.proofs.steps.has_oblique_step.Given as goal

-- the steps so far are straight
abbrev pub invariant-loop-k : goal.invariant-loop-k
invariant-loop-k l = (j : ℕ) → 0 < j → j < l.k → IsStraight (point l.points (j - 1), point l.points j)
