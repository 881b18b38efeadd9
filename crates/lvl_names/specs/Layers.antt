-- Layers (each is a layer and a datatype): when two are equal, and their order (own rule).
use Rattle.std.specs.Prelude.{◌≡◌, ◌<◌, ◌==◌, ◌&&◌, ◌⊎◌, Bool}
use Rattle.lvl_names.specs.declared.layer.Layer.{Layer}

-- both have the same layer and the same datatype
abbrev pub same_layer : Layer → Layer → Bool
same_layer a b = (a.layer == b.layer) && (a.datatype == b.datatype)

-- the first Layer comes before the second: by the layer, then by the datatype
abbrev pub ComesBefore : Layer → Layer → Type 0
ComesBefore a b = (a.layer < b.layer) ⊎ ((a.layer ≡ b.layer) × (a.datatype < b.datatype))
