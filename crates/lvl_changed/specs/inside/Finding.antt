-- What is found for cells: areas outside of which they cover what their partners do.
use Rattle.std.specs.Prelude.{◌≡◌, ℕ, List, slice_get, Option, Some, None}
use Rattle.lvl_grid.specs.declared.point.Square.{Square}
use Rattle.lvl_names.specs.declared.layer.Layer.{Layer}
use Rattle.lvl_cells.specs.Cells.{PlainCell, Rings}
use Rattle.lvl_flat.specs.Flattened.{CoversAt}
use Rattle.lvl_view.specs.declared.map.LayerPair.{LayerPair}
use Rattle.lvl_view.specs.Moved.{IsMoved}
use Rattle.lvl_changed.specs.declared.found.Found.{Found}
use Rattle.lvl_changed.specs.inside.Areas.{AlikeOutside}

-- the partner covers the square under the map of Layers; without a partner nothing is covered
abbrev pub PartnerCovers : List LayerPair → List (PlainCell Rings) → Option ℕ → Layer → Square → Type 0
PartnerCovers pairs cells None layer s = ⊥
PartnerCovers pairs cells (Some n) layer s = IsMoved pairs (CoversAt cells n) layer s

-- outside of the area, cell i of the first library covers what its partner does
abbrev pub IsFound : List LayerPair → List (PlainCell Rings) → List (PlainCell Rings) → ℕ → Found → Type 0
IsFound pairs ours theirs i f = AlikeOutside f.area (CoversAt ours i) (PartnerCovers pairs theirs f.partner)

-- that holds for each cell of the first library for which something is known
abbrev pub AreFound : List LayerPair → List (PlainCell Rings) → List (PlainCell Rings) → List (Option Found) → Type 0
AreFound pairs ours theirs known =
    (i : ℕ) (f : Found) → slice_get known i ≡ Some (Some f) → IsFound pairs ours theirs i f
