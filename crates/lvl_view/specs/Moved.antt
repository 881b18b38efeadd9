-- What is covered under a map of Layers (own rule).
use Rattle.std.specs.Prelude.{◌≡◌, List}
use Rattle.lvl_grid.specs.declared.point.Square.{Square}
use Rattle.lvl_names.specs.declared.layer.Layer.{Layer}
use Rattle.lvl_view.specs.Views.{target_of}
use Rattle.lvl_view.specs.declared.map.LayerPair.{LayerPair}

-- under the map, the square is covered on the Layer `target`: it is covered on some Layer whose target that is; all
-- pairs apply at once
pub record IsMoved (pairs : List LayerPair) (Covers : Layer → Square → Type 0) (target : Layer)
    (s : Square) : Type 0 where
  pub source : Layer
  pub is_target : target_of pairs source ≡ target
  pub covers : Covers source s
