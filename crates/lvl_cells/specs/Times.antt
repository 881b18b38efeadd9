-- How often the top places each cell.
use Rattle.std.specs.Prelude.{◌≡◌, ℕ, ◌*◌, List, length, slice_get, slice_index, sum_by, Some}
use Rattle.std.specs.Option.{option_map_or}
use Rattle.lvl_cells.specs.Cells.{PlainCell, Rings}
use Rattle.lvl_cells.specs.Chains.{over_chains}
use Rattle.lvl_cells.specs.Checks.{Settled}

-- the weight of the cell at index k
abbrev pub at_place : (PlainCell Rings → ℕ) → List (PlainCell Rings) → ℕ → ℕ
at_place w cells k = option_map_or w (slice_get cells k) 0

-- `times` has how many chains from the top end in each cell: a sum of weights over these chains is the sum over the
-- cells, each weight multiplied by the times of the cell
pub record AreTimes (s : Settled) (times : List ℕ) : Type 0 where
  pub top : PlainCell Rings
  pub is_top : slice_get s.cells s.top ≡ Some top
  pub long : length times ≡ length s.cells
  pub whole : (w : PlainCell Rings → ℕ) → sum_by (λ k. slice_index times k * at_place w s.cells k) s.order
      ≡ over_chains w s.cells (length s.cells) top
