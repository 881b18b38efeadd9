use Rattle.std.proofs.Common.{◌≡◌, ◌<◌, ◌≤◌, ◌-◌, ℕ, length, slice_get, Some}
use Rattle.lvl_flat.specs.Sheet.{PlainSheet}
use Rattle.lvl_names.specs.Layers.{ComesBefore}
use Rattle.lvl_flat.proofs.flat.place_of.Given as goal

-- the Layers before index `low` come before the Layer, those from index `high` on don't
abbrev pub invariant-loop-low : goal.invariant-loop-low
invariant-loop-low l = record {
  order : l.low ≤ l.high;
  within : l.high ≤ length l.sheets;
  below : (k : ℕ) (s : PlainSheet) → k < l.low → slice_get l.sheets k ≡ Some s → ComesBefore s.layer l.layer;
  above : (k : ℕ) (s : PlainSheet) → l.high ≤ k → slice_get l.sheets k ≡ Some s → ComesBefore s.layer l.layer → ⊥;
}

abbrev pub decreases-loop-low : goal.decreases-loop-low
decreases-loop-low l = l.high - l.low
