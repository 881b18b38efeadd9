use Rattle.std.proofs.Common.{◌≡◌, ℕ, ◌<◌, false, Some}
use Rattle.std.specs.List.{slice_get}
use Rattle.lvl_cells.proofs.top.is_other_unset.Given as goal

-- no mark so far is unset, but perhaps that of the root
abbrev pub invariant-loop-k : goal.invariant-loop-k
invariant-loop-k l = (j : ℕ) → j < l.k → slice_get l.marks j ≡ Some false → j ≡ l.root
