-- Lists of indexes.
use Rattle.std.specs.Prelude.{◌<◌, ◌≤◌, ◌⊎◌, ℕ, List, length, get_or, AllPairs, Contains}
use Rattle.std.specs.List.{range_with_len}
use Rattle.lvl_flat.specs.declared.indexes.Kept.{Kept}
use Rattle.lvl_flat.specs.declared.indexes.Kept.TheVariants.{Below, These}

-- the indexes, in ascending order
abbrev pub listed : Kept → List ℕ
listed (Below end) = range_with_len 0 end
listed (These list) = list.items

-- no index of the list is from `from` up to `next`, which is excluded
pub record IsNext (list : List ℕ) (from next : ℕ) : Type 0 where
  pub on : from ≤ next
  pub none : (k : ℕ) → k < length list → from ≤ get_or list k 0 → next ≤ get_or list k 0

-- of the first `place` indexes of a list those are kept, in ascending order, for which Out doesn't hold, and maybe others
pub record IsKept (list : List ℕ) (Out : ℕ → Type 0) (place : ℕ) (kept : List ℕ) : Type 0 where
  pub rising : AllPairs (λ a b. a < b) kept
  pub below : (n k : ℕ) → n < length kept → place ≤ k → k < length list → get_or kept n 0 < get_or list k 0
  pub all : (n : ℕ) → n < place → Contains kept (get_or list n 0) ⊎ Out (get_or list n 0)
