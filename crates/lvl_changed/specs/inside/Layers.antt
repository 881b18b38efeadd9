-- Sets of Layers.
use Rattle.std.specs.Prelude.{◌⊎◌, IsTrue, Contains}
use Rattle.lvl_names.specs.declared.layer.Layer.{Layer}
use Rattle.lvl_changed.specs.declared.layers.Layers.{Layers}

-- the set is every Layer, or its list has the Layer
abbrev pub IsOn : Layers → Layer → Type 0
IsOn layers layer = IsTrue layers.every ⊎ Contains layers.list.items layer

-- `to` has each Layer of `from`
abbrev pub Spreads : Layers → Layers → Type 0
Spreads from to = (layer : Layer) → IsOn from layer → IsOn to layer
