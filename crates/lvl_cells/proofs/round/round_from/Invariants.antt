use Rattle.std.proofs.Common.{◌≡◌, ℕ, ◌<◌, Some}
use Rattle.std.specs.List.{slice_get}
use Rattle.lvl_cells.specs.declared.walk.Visit.{Visit}
use Rattle.lvl_cells.proofs.round.round_from.Given as goal

-- no visit so far is to the cell
abbrev pub invariant-loop-k : goal.invariant-loop-k
invariant-loop-k l = (j : ℕ) (v : Visit) → j < l.k → slice_get l.path j ≡ Some v → ¬ (v.cell ≡ l.start)
