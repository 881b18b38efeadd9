-- Areas: squares of some windows on some Layers, and what two layouts cover outside of them.
use Rattle.std.specs.Prelude.{◌↔◌}
use Rattle.lvl_grid.specs.declared.point.Square.{Square}
use Rattle.lvl_grid.specs.declared.map.Map.{Map}
use Rattle.lvl_grid.specs.Turn.{image_square}
use Rattle.lvl_names.specs.declared.layer.Layer.{Layer}
use Rattle.lvl_compare.specs.Tops.{Draws}
use Rattle.lvl_changed.specs.declared.area.Area.{Area}
use Rattle.lvl_changed.specs.inside.Layers.{IsOn}
use Rattle.lvl_changed.specs.inside.Windows.{Has}

-- the area has the square on the Layer
abbrev pub IsIn : Area → Layer → Square → Type 0
IsIn area layer s = IsOn area.layers layer × Has area.windows s

-- `to` has each square of `from`, on each Layer
pub record Grows (from to : Area) : Type 0 where
  pub has : (layer : Layer) (s : Square) → IsIn from layer s → IsIn to layer s

-- the area `all` has the images of all squares of the area `held`, on each Layer
pub record HasImages (m : Map) (held all : Area) : Type 0 where
  pub has : (layer : Layer) (s : Square) → IsIn held layer s → IsIn all layer (image_square m s)

-- both cover the same outside of the area
abbrev pub AlikeOutside : Area → Draws → Draws → Type 0
AlikeOutside area a b = (layer : Layer) (s : Square) → (¬ IsIn area layer s) → a layer s ↔ b layer s
