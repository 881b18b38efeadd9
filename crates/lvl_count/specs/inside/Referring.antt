-- The names to which references refer, as a set.
use Rattle.std.specs.Prelude.{◌≡◌, ◌+◌, ℕ, Bool, List, Some, slice_get}
use Rattle.std.specs.BTreeSet.{BTreeSet, contains_by}
use Rattle.std.specs.Cmp.Lexicographic.{slice_cmp}
use Rattle.std.specs.Global.{Vec}
use Rattle.std.specs.Ordering.{nat_cmp}
use Rattle.lvl_cells.specs.Cells.{PlainCell, PlainReference}
use Rattle.lvl_count.specs.Listed.{is_referred}

-- whether the set has the name
abbrev pub has_name : BTreeSet (Vec ℕ) → List ℕ → Bool
has_name set name = contains_by (λ k. slice_cmp nat_cmp name k.items) set

-- the set has the names to which the cells refer, and no others
abbrev pub HasReferred : {F : Type 0} → BTreeSet (Vec ℕ) → List (PlainCell F) → Type 0
HasReferred set cells = (name : List ℕ) → has_name set name ≡ is_referred cells name

-- reference j is to the cell of the one before it
pub record Repeats (rs : List PlainReference) (j : ℕ) : Type 0 where
  pub earlier : ℕ
  pub next : earlier + 1 ≡ j
  pub first : PlainReference
  pub second : PlainReference
  pub first_there : slice_get rs earlier ≡ Some first
  pub second_there : slice_get rs j ≡ Some second
  pub same : second.cell ≡ first.cell
