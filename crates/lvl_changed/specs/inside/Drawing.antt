-- On which Layers cells draw, with all that they place.
use Rattle.std.specs.Prelude.{◌≡◌, ℕ, List, Option, Some, slice_get}
use Rattle.lvl_grid.specs.declared.point.Square.{Square}
use Rattle.lvl_names.specs.declared.layer.Layer.{Layer}
use Rattle.lvl_cells.specs.Cells.{PlainCell, Rings}
use Rattle.lvl_flat.specs.Flattened.{CoversAt}
use Rattle.lvl_changed.specs.declared.layers.Layers.{Layers}
use Rattle.lvl_changed.specs.inside.Layers.{IsOn}

-- the cell at the index draws on no other Layers
abbrev pub IsDrawnOn : List (PlainCell Rings) → ℕ → Layers → Type 0
IsDrawnOn cells i layers = (layer : Layer) (s : Square) → CoversAt cells i layer s → IsOn layers layer

-- that holds for each cell for which something is known
abbrev pub AreDrawnOn : List (PlainCell Rings) → List (Option Layers) → Type 0
AreDrawnOn cells known = (i : ℕ) (layers : Layers) → slice_get known i ≡ Some (Some layers) → IsDrawnOn cells i layers
