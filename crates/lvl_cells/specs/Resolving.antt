-- An index of names: a map from each name of a list to where it is in the list.
use Rattle.std.specs.Prelude.{◌≡◌, ℕ, List, ◌↔◌, slice_get, Option, Some, IfSome}
use Rattle.std.specs.BTreeMap.{BTreeMap, get_by}
use Rattle.std.specs.Cmp.Lexicographic.{slice_cmp}
use Rattle.std.specs.Ordering.{nat_cmp}
use denote.Ref.{Bor}
use Rattle.lvl_cells.specs.Faults.{IsFirstRepeat}
use Rattle.lvl_cells.specs.declared.fault.CellFault.{CellFault}
use Rattle.lvl_cells.specs.declared.fault.CellFault.TheVariants.{DuplicateCell}

-- g returns the index of each name in the list, and None for any other name; so the names are distinct
abbrev pub Finds : (List ℕ → Option ℕ) → List (List ℕ) → Type 0
Finds g names = (name : List ℕ) (k : ℕ) → (g name ≡ Some k) ↔ (slice_get names k ≡ Some name)

-- the value that the map has for a name
abbrev pub place_in_index : BTreeMap (Bor (List ℕ)) ℕ → List ℕ → Option ℕ
place_in_index index name = get_by (λ k. slice_cmp nat_cmp name k.now) index

-- the map has the index of each name in the list, and nothing else
abbrev pub IsIndexOf : List (List ℕ) → BTreeMap (Bor (List ℕ)) ℕ → Type 0
IsIndexOf names index = Finds (place_in_index index) names

-- if a name is given, `place` is its index in the list, or None if the list doesn't have it
abbrev pub IsPlaceOf : List (List ℕ) → Option (List ℕ) → Option ℕ → Type 0
IsPlaceOf names given place = IfSome given (λ name. (k : ℕ) → (place ≡ Some k) ↔ (slice_get names k ≡ Some name))

-- the fault reports the first repeated name
abbrev pub IsRepeatFault : List (List ℕ) → CellFault → Type 0
IsRepeatFault names (DuplicateCell name) = IsFirstRepeat names name.items
IsRepeatFault names _ = ⊥
