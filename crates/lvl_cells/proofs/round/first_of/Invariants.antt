use Rattle.std.proofs.Common.{◌≡◌, ℕ, ◌<◌, ◌≤◌, length, Some}
use Rattle.std.specs.List.{slice_get}
use Rattle.lvl_cells.specs.declared.walk.Visit.{Visit}
use Rattle.lvl_cells.proofs.round.first_of.Given as goal

-- the visit at index `first` has the least cell so far
abbrev pub invariant-loop-k : goal.invariant-loop-k
invariant-loop-k l = record {
  within : l.first < length l.round;
  least : (j : ℕ) (v w : Visit) → j < l.k → slice_get l.round l.first ≡ Some v → slice_get l.round j ≡ Some w
      → v.cell ≤ w.cell;
}
