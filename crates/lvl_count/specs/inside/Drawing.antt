-- The Layers on which shapes are, as a set.
use Rattle.std.specs.Prelude.{◌≡◌, ◌+◌, ℕ, Bool, List}
use Rattle.std.specs.BTreeSet.{BTreeSet, contains}
use Rattle.lvl_names.specs.declared.layer.Layer.{Layer}
use Rattle.lvl_names.specs.contracts.layer.LayerOrd.TheImpl as layer_ord
use Rattle.lvl_cells.specs.Cells.{PlainCell, PlainShape, Rings, shape_at}
use Rattle.lvl_count.specs.Drawn.{is_drawn}

-- whether the set has the Layer
abbrev pub has_layer : BTreeSet Layer → Layer → Bool
has_layer set layer = contains (layer_ord.ghosts).cmp set layer

-- the set has the Layers on which the cells have shapes, and no others
abbrev pub HasDrawn : {F : Type 0} → BTreeSet Layer → List (PlainCell F) → Type 0
HasDrawn set cells = (layer : Layer) → has_layer set layer ≡ is_drawn cells layer

-- shape i is on the Layer of the one before it
pub record IsOnSame (shapes : List (PlainShape Rings)) (i : ℕ) : Type 0 where
  pub earlier : ℕ
  pub next : earlier + 1 ≡ i
  pub same : (shape_at shapes i).layer ≡ (shape_at shapes earlier).layer
