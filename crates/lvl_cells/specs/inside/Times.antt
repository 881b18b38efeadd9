-- How often each cell is placed, found from the top down.
use Rattle.std.specs.Prelude.{◌≡◌, ℕ, zero, suc, ◌+◌, ◌*◌, ◌<◌, ◌≤◌, List, [], ◌∷◌, length, slice_get, slice_index, Some}
use Rattle.lvl_cells.specs.Cells.{PlainCell, PlainReference, Rings, cell_named, each_ring}
use Rattle.std.specs.Prelude.{sum_by}
use Rattle.std.specs.Option.{option_map_or}
use Rattle.lvl_profile.specs.declared.limits.Limits.{Limits}
use Rattle.lvl_cells.specs.Chains.{over_chains, own_rings}
use Rattle.lvl_cells.specs.declared.fault.CellFault.{CellFault}
use Rattle.lvl_cells.specs.declared.fault.CellFault.TheVariants.{TooManyPlacements, TooManyRings}
use Rattle.lvl_cells.specs.Checks.{Settled}
use Rattle.lvl_cells.specs.Times.{at_place}

-- the sum of the weights over all chains from a cell
abbrev pub over_all : (PlainCell Rings → ℕ) → List (PlainCell Rings) → PlainCell Rings → ℕ
over_all w cells c = over_chains w cells (length cells) c

-- the sum of the weights over all chains from the cell at index k
abbrev pub chains_at : (PlainCell Rings → ℕ) → List (PlainCell Rings) → ℕ → ℕ
chains_at w cells k = at_place (over_all w cells) cells k

-- the sum over the indexes of a list: each adds its times, multiplied by f for the first i items and by g for the
-- others
abbrev pub weighed : (ℕ → ℕ) → (ℕ → ℕ) → List ℕ → ℕ → List ℕ → ℕ
weighed f g times i [] = 0
weighed f g times zero (k ∷ ks) = slice_index times k * g k + weighed f g times zero ks
weighed f g times (suc i) (k ∷ ks) = slice_index times k * f k + weighed f g times i ks

-- the first i cells of the order passed on their placements: the sum of weights over all chains from the top is that of
-- these cells, as often as each is placed, and of the chains from the other cells, as often as each was placed so far
pub record IsUnderWay (s : Settled) (i : ℕ) (times : List ℕ) : Type 0 where
  pub top : PlainCell Rings
  pub is_top : slice_get s.cells s.top ≡ Some top
  pub long : length times ≡ length s.cells
  pub whole : (w : PlainCell Rings → ℕ) → weighed (at_place w s.cells) (chains_at w s.cells) times i s.order
      ≡ over_all w s.cells top

-- what a reference adds to the sum over all chains from the cell that has it
abbrev pub adds : (PlainCell Rings → ℕ) → List (PlainCell Rings) → PlainReference → ℕ
adds w cells r = length r.shifts * option_map_or (over_all w cells) (cell_named cells r.cell) 0

-- the first i cells of the order passed on their placements, and the next one, which is placed `here` times, except for
-- the references that are left
pub record IsPassing (s : Settled) (i here : ℕ) (left : List PlainReference) (times : List ℕ) : Type 0 where
  pub top : PlainCell Rings
  pub is_top : slice_get s.cells s.top ≡ Some top
  pub long : length times ≡ length s.cells
  pub whole : (w : PlainCell Rings → ℕ)
      → weighed (at_place w s.cells) (chains_at w s.cells) times (suc i) s.order
      + here * sum_by (adds w s.cells) left
      ≡ over_all w s.cells top

-- the sum of the weights over all chains from the top is more than `most`
pub record HasMore (w : PlainCell Rings → ℕ) (s : Settled) (most : ℕ) : Type 0 where
  pub top : PlainCell Rings
  pub is_top : slice_get s.cells s.top ≡ Some top
  pub more : most < over_all w s.cells top

-- it is at most `most`
pub record HasFew (w : PlainCell Rings → ℕ) (s : Settled) (most : ℕ) : Type 0 where
  pub top : PlainCell Rings
  pub is_top : slice_get s.cells s.top ≡ Some top
  pub few : over_all w s.cells top ≤ most

-- there are more chains from the top than `most`
abbrev pub HasMoreChains : Settled → ℕ → Type 0
HasMoreChains s most = HasMore (λ c. 1) s most

-- the fault is that there are too many chains from the top, or few chains, but too many rings
abbrev pub IsCountFault : Limits → Settled → CellFault → Type 0
IsCountFault limits s TooManyPlacements = HasMoreChains s limits.placed
IsCountFault limits s TooManyRings =
    HasFew (λ c. 1) s limits.placed × HasMore (own_rings each_ring) s limits.placed
IsCountFault limits s _ = ⊥

-- the sum over the cells at these indexes: each adds its weight as often as it is placed
abbrev pub placed_weight : (PlainCell Rings → ℕ) → List (PlainCell Rings) → List ℕ → List ℕ → ℕ
placed_weight w cells times places = sum_by (λ k. slice_index times k * at_place w cells k) places

-- `sum` is that sum, and at most `most`
pub record IsAddedUp (w : PlainCell Rings → ℕ) (cells : List (PlainCell Rings)) (times places : List ℕ) (sum most : ℕ)
    : Type 0 where
  pub is : sum ≡ placed_weight w cells times places
  pub few : sum ≤ most
