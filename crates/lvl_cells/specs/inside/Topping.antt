-- Cells to which no cell refers.
use Rattle.std.specs.Prelude.{◌≢◌, ℕ, ◌<◌, List, length}
use Rattle.lvl_cells.specs.inside.Walking.{IsArc}

-- some reference is to cell k
abbrev pub IsTarget : List (List ℕ) → ℕ → Type 0
IsTarget targets k = (a : ℕ) × (j : ℕ) × IsArc targets a j k

-- there is another cell than the root to which no cell refers
pub record HasOtherRoot (targets : List (List ℕ)) (root : ℕ) : Type 0 where
  pub other : ℕ
  pub low : other < length targets
  pub apart : other ≢ root
  pub free : ¬ IsTarget targets other
