-- A flat layout under a map of Layers.
use Rattle.std.specs.Prelude.{◌↔◌, List, [], if◌then◌else◌}
use Rattle.std.specs.List.{flat_map}
use Rattle.lvl_grid.specs.declared.point.Square.{Square}
use Rattle.lvl_grid.specs.Winding.{SomeCovers}
use Rattle.lvl_names.specs.declared.layer.Layer.{Layer}
use Rattle.lvl_cells.specs.Cells.{Rings}
use Rattle.lvl_names.specs.Layers.{same_layer}
use Rattle.lvl_view.specs.declared.map.LayerPair.{LayerPair}
use Rattle.lvl_view.specs.Views.{target_of}
use Rattle.lvl_view.specs.Moved.{IsMoved}
use Rattle.lvl_flat.specs.Sheet.{PlainSheet}
use Rattle.lvl_flat.specs.Sheets.{rings_on}

-- on each Layer, `to` covers exactly what `from` covers on the Layers whose target it is
abbrev pub IsMapped : List LayerPair → List PlainSheet → List PlainSheet → Type 0
IsMapped pairs from to =
    (layer : Layer) (s : Square) → SomeCovers (rings_on layer to) s
    ↔ IsMoved pairs (λ l. SomeCovers (rings_on l from)) layer s

-- the rings of the Layers whose target is this one, in the order of those Layers
abbrev pub mapped_on : List LayerPair → Layer → List PlainSheet → Rings
mapped_on pairs layer sheets =
    flat_map (λ sheet. if same_layer (target_of pairs sheet.layer) layer then sheet.rings else []) sheets
