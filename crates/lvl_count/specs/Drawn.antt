-- The Layers on which the cells of a library, sound or not, have shapes (own rule).
use Rattle.std.specs.Prelude.{Bool, not, List, Option}
use Rattle.std.specs.List.{find, list_any}
use Rattle.lvl_names.specs.Layers.{same_layer}
use Rattle.lvl_names.specs.declared.layer.Layer.{Layer}
use Rattle.lvl_cells.specs.Cells.{PlainCell}

-- whether some shape of the cell is on the Layer
abbrev pub has_shape_on : {F : Type 0} → Layer → PlainCell F → Bool
has_shape_on layer c = list_any (λ h. same_layer h.layer layer) c.shapes

-- whether some cell has a shape on the Layer
abbrev pub is_drawn : {F : Type 0} → List (PlainCell F) → Layer → Bool
is_drawn cells layer = list_any (has_shape_on layer) cells

-- the first of the Layers on which no cell has a shape, if there is one
abbrev pub first_undrawn : {F : Type 0} → List (PlainCell F) → List Layer → Option Layer
first_undrawn cells layers = find (λ layer. not (is_drawn cells layer)) layers
