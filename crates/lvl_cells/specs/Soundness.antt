-- When a library is sound for a top (own rules).
use Rattle.std.specs.Prelude.{◌≡◌, ℕ, ◌<◌, List, map, flat_map, length, ◌↔◌, All, Contains, slice_get, Option, Some}
use Rattle.std.specs.Prelude.{Bool, None, true}
use Rattle.std.specs.List.{IsDistinct}
use Rattle.std.specs.Str.{bytes_eq}
use Rattle.lvl_cells.specs.Cells.{PlainCell, names}

-- each reference in file order, as two names: that of the cell that has it, and the one that it refers to
abbrev pub links : {F : Type 0} → List (PlainCell F) → List (List ℕ × List ℕ)
links cells = flat_map (λ c. map (λ r. (c.name, r.cell)) c.references) cells

-- each name that these references refer to is the name of a cell
abbrev pub AreNamed : {F : Type 0} → List (PlainCell F) → List (List ℕ × List ℕ) → Type 0
AreNamed cells some = All (λ link. Contains (names cells) link.1) some

-- no cell is placed in itself: names have ranks that decrease along every reference
abbrev pub IsRanked : {F : Type 0} → List (PlainCell F) → Type 0
IsRanked cells = (rank : List ℕ → ℕ) × All (λ link. rank link.1 < rank link.0) (links cells)

-- some cell refers to the name
abbrev pub IsReferred : {F : Type 0} → List (PlainCell F) → List ℕ → Type 0
IsReferred cells name = Contains (map (λ link. link.1) (links cells)) name

-- for each cell, whether some cell refers to it
pub record AreReferred {F : Type 0} (cells : List (PlainCell F)) (marks : List Bool) : Type 0 where
  pub long : length marks ≡ length cells
  pub marked : (k : ℕ) (name : List ℕ) → slice_get (names cells) k ≡ Some name
      → (slice_get marks k ≡ Some true) ↔ IsReferred cells name

-- cell k has the given name; or, if none is given, it is the only cell to which no cell refers
abbrev pub IsTop : {F : Type 0} → List (PlainCell F) → Option (List ℕ) → ℕ → Type 0
IsTop cells (Some name) k = slice_get (names cells) k ≡ Some name
IsTop cells None k =
    (k < length cells)
    × ((j : ℕ) (name : List ℕ) → slice_get (names cells) j ≡ Some name → (¬ IsReferred cells name) ↔ (j ≡ k))

-- names are distinct, and each reference names a cell
pub record AreLinked {F : Type 0} (cells : List (PlainCell F)) : Type 0 where
  pub distinct : IsDistinct bytes_eq (names cells)
  pub named : AreNamed cells (links cells)

-- the library is sound for the given name of a top or for none, and its top is the cell at index `top`
pub record IsSound {F : Type 0} (cells : List (PlainCell F)) (given : Option (List ℕ)) (top : ℕ) : Type 0 where
  pub linked : AreLinked cells
  pub ranked : IsRanked cells
  pub is_top : IsTop cells given top

-- the list has the index of every cell once, each before those of the cells that it refers to
pub record IsOrder {F : Type 0} (cells : List (PlainCell F)) (order : List ℕ) : Type 0 where
  pub there : (k : ℕ) → k < length cells → Contains order k
  pub once : (i j k : ℕ) → slice_get order i ≡ Some k → slice_get order j ≡ Some k → i ≡ j
  pub within : All (λ k. k < length cells) order
  pub falls : (i j k l : ℕ) (a b : List ℕ) → slice_get order i ≡ Some k → slice_get order j ≡ Some l
      → slice_get (names cells) k ≡ Some a → slice_get (names cells) l ≡ Some b → Contains (links cells) (a, b) → i < j
