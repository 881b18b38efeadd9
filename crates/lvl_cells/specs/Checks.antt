-- Libraries that were checked.
use Rattle.std.specs.Prelude.{◌≡◌, ℕ, ◌<◌, ◌≤◌, ◌^◌, List, length, Option, Some, slice_get}
use Rattle.lvl_profile.specs.declared.limits.Limits.{Limits}
use Rattle.lvl_cells.specs.Cells.{PlainCell, PlainReference, Rings, each_ring, cell_named}
use Rattle.lvl_cells.specs.Chains.{chains, placed_rings}
use Rattle.lvl_cells.specs.Soundness.{IsSound, IsOrder}

-- the cells, the index of the top, and the indexes of all cells in an order
pub record Settled : Type 0 where
  pub cells : List (PlainCell Rings)
  pub top : ℕ
  pub order : List ℕ

-- the library is sound for the given name of a top or for none, in its order each cell is before the cells that it
-- refers to, and the top has no more chains and placed rings than the limits allow
pub record IsSettled (limits : Limits) (given : Option (List ℕ)) (s : Settled) : Type 0 where
  pub cell : PlainCell Rings
  pub sound : IsSound s.cells given s.top
  pub sorted : IsOrder s.cells s.order
  pub is : slice_get s.cells s.top ≡ Some cell
  pub few_chains : chains s.cells cell ≤ limits.placed
  pub few_rings : placed_rings each_ring s.cells cell ≤ limits.placed

-- the cell has no more chains and placed rings than the limits allow
pub record PlacesFew (limits : Limits) (cells : List (PlainCell Rings)) (c : PlainCell Rings) : Type 0 where
  pub few_chains : chains cells c ≤ limits.placed
  pub few_rings : placed_rings each_ring cells c ≤ limits.placed

-- that holds for some limits below 2^64, and for some given name of a top or for none
pub record IsChecked (s : Settled) : Type 0 where
  pub limits : Limits
  pub given : Option (List ℕ)
  pub settled : IsSettled limits given s
  pub narrow : limits.placed < 2 ^ 64

-- reference j of cell i is to cell k, all three by index
pub record IsTargetOf (cells : List (PlainCell Rings)) (i j k : ℕ) : Type 0 where
  pub cell : PlainCell Rings
  pub reference : PlainReference
  pub target : PlainCell Rings
  pub cell_is : slice_get cells i ≡ Some cell
  pub reference_is : slice_get cell.references j ≡ Some reference
  pub target_is : slice_get cells k ≡ Some target
  pub named : cell_named cells reference.cell ≡ Some target

-- cell i has a reference j
abbrev pub HasReference : List (PlainCell Rings) → ℕ → ℕ → Type 0
HasReference cells i j = (c : PlainCell Rings) × (slice_get cells i ≡ Some c) × (j < length c.references)
