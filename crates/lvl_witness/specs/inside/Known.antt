-- Tables of cells and squares.
use Rattle.std.specs.Prelude.{◌≡◌, ◌⊎◌, ℕ, List, Option, Some, Contains}
use Rattle.lvl_grid.specs.declared.point.Square.{Square}
use Rattle.lvl_names.specs.declared.layer.Layer.{Layer}
use Rattle.lvl_cells.specs.Cells.{PlainCell, Rings}
use Rattle.lvl_flat.specs.Flattened.{CoversAt}
use Rattle.lvl_witness.specs.declared.known.Seen.{Seen}

-- the cell at index i, and the square
abbrev pub seen_at : ℕ → Square → Seen
seen_at i q = record { cell = i; square = q }

-- the new table has nothing that the old one doesn't have
abbrev pub HasNoMore : List (Option Seen) → List (Option Seen) → Type 0
HasNoMore old new = (s : Seen) → Contains new (Some s) → Contains old (Some s)

-- but for one cell and square
abbrev pub HasNoOthers : List (Option Seen) → List (Option Seen) → Seen → Type 0
HasNoOthers old new one = (s : Seen) → Contains new (Some s) → Contains old (Some s) ⊎ (s ≡ one)

-- no cell of the table covers its square on one of the Layers
pub record AreEmpty (cells : List (PlainCell Rings)) (layers : List Layer) (known : List (Option Seen)) : Type 0 where
  pub empty : (s : Seen) (layer : Layer) → Contains known (Some s) → Contains layers layer
      → ¬ CoversAt cells s.cell layer s.square
