-- Where two layouts may draw differently (own rule).
use Rattle.std.specs.Prelude.{◌↔◌, Contains, IfSome}
use Rattle.lvl_grid.specs.declared.point.Square.{Square}
use Rattle.lvl_names.specs.declared.layer.Layer.{Layer}
use Rattle.lvl_compare.specs.Parts.{SomeHas}
use Rattle.lvl_compare.specs.Tops.{Draws}
use Rattle.lvl_changed.specs.declared.changes.Changes.{Changes}

-- one of the windows has the square, and if Layers are listed, the Layer is one of these
abbrev pub IsChange : Changes → Layer → Square → Type 0
IsChange changes layer s = IfSome changes.layers (λ list. Contains list.items layer) × SomeHas changes.windows.items s

-- both draw the same but for these changes
abbrev pub DrawSameBut : Changes → Draws → Draws → Type 0
DrawSameBut changes a b = (layer : Layer) (s : Square) → (¬ IsChange changes layer s) → a layer s ↔ b layer s
