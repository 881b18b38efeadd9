-- The faults of a library (own rules), and the names that they report.
use Rattle.std.specs.Prelude.{◌≡◌, ◌≢◌, ℕ, ◌<◌, ◌≤◌, List, [], ◌∷◌, ◌++◌, map, All, Contains, slice_get, Option, Some}
use Rattle.std.specs.Prelude.{None}
use Rattle.std.specs.List.{IsDistinct}
use Rattle.std.specs.Str.{bytes_eq}
use Rattle.lvl_grid.specs.Winding.{edges}
use Rattle.lvl_profile.specs.declared.limits.Limits.{Limits}
use Rattle.lvl_cells.specs.Cells.{PlainCell, Rings, each_ring, names}
use Rattle.lvl_cells.specs.Chains.{chains, placed_rings}
use Rattle.lvl_cells.specs.Soundness.{links, AreNamed, AreLinked, IsRanked, IsReferred, IsSound}
use Rattle.lvl_cells.specs.declared.fault.CellFault.{CellFault}
use Rattle.lvl_cells.specs.declared.fault.CellFault.TheVariants.{NoCell, DuplicateCell, MissingCell, Cycle, TopMissing}
use Rattle.lvl_cells.specs.declared.fault.CellFault.TheVariants.{ManyTops, TooManyPlacements, TooManyRings}

-- the name is the first item of the list that equals an earlier one
pub record IsFirstRepeat (all : List (List ℕ)) (name : List ℕ) : Type 0 where
  pub before : List (List ℕ)
  pub after : List (List ℕ)
  pub there : all ≡ before ++ name ∷ after
  pub distinct : IsDistinct bytes_eq before
  pub repeated : Contains before name

-- in file order, the first reference to a name that no cell has is one of the cell `from` to `name`
pub record IsFirstMissing (cells : List (PlainCell Rings)) (from name : List ℕ) : Type 0 where
  pub before : List (List ℕ × List ℕ)
  pub after : List (List ℕ × List ℕ)
  pub there : links cells ≡ before ++ (from, name) ∷ after
  pub named : AreNamed cells before
  pub missing : ¬ Contains (names cells) name

-- the list has the names of distinct cells, each referring to the next and the last to the first; the first of the
-- list is the one that comes first in the file
pub record IsCycle (cells : List (PlainCell Rings)) (round : List (List ℕ)) : Type 0 where
  pub some : round ≢ []
  pub distinct : IsDistinct bytes_eq round
  pub linked : All (Contains (links cells)) (edges round)
  pub first : (i j : ℕ) (name : List ℕ) → slice_get (names cells) i ≡ slice_get round 0
      → slice_get (names cells) j ≡ Some name → Contains round name → i ≤ j

-- there are two cells to which no cell refers
pub record HasTwoTops (cells : List (PlainCell Rings)) : Type 0 where
  pub first : ℕ
  pub second : ℕ
  pub first_name : List ℕ
  pub second_name : List ℕ
  pub apart : first < second
  pub first_is : slice_get (names cells) first ≡ Some first_name
  pub second_is : slice_get (names cells) second ≡ Some second_name
  pub first_free : ¬ IsReferred cells first_name
  pub second_free : ¬ IsReferred cells second_name

-- the library is sound for the given name of a top or for none, and P holds of the top
pub record IsSoundWith (cells : List (PlainCell Rings)) (given : Option (List ℕ))
    (P : PlainCell Rings → Type 0) : Type 0 where
  pub index : ℕ
  pub cell : PlainCell Rings
  pub sound : IsSound cells given index
  pub is : slice_get cells index ≡ Some cell
  pub counts : P cell

-- the library has the fault, and none of those above it here
abbrev pub IsFaultOf : Limits → List (PlainCell Rings) → Option (List ℕ) → CellFault → Type 0
IsFaultOf limits cells given NoCell = cells ≡ []
IsFaultOf limits cells given (DuplicateCell name) = IsFirstRepeat (names cells) name.items
IsFaultOf limits cells given (MissingCell from name) =
    IsDistinct bytes_eq (names cells) × IsFirstMissing cells from.items name.items
IsFaultOf limits cells given (Cycle round) = AreLinked cells × IsCycle cells (map (λ name. name.items) round.items)
IsFaultOf limits cells given TopMissing =
    AreLinked cells × IsRanked cells × (cells ≢ [])
    × ((name : List ℕ) × (given ≡ Some name) × (¬ Contains (names cells) name))
IsFaultOf limits cells given ManyTops = AreLinked cells × IsRanked cells × (given ≡ None) × HasTwoTops cells
IsFaultOf limits cells given TooManyPlacements = IsSoundWith cells given (λ c. limits.placed < chains cells c)
IsFaultOf limits cells given TooManyRings =
    IsSoundWith cells given
    (λ c. (chains cells c ≤ limits.placed) × (limits.placed < placed_rings each_ring cells c))
