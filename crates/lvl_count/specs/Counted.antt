-- How many rings a cell places on each Layer.
use Rattle.std.specs.Prelude.{◌≡◌, ◌<◌, List, map, All, AllPairs, Contains}
use Rattle.lvl_names.specs.declared.layer.Layer.{Layer}
use Rattle.lvl_names.specs.Layers.{ComesBefore}
use Rattle.lvl_cells.specs.Cells.{PlainCell, Rings}
use Rattle.lvl_cells.specs.Chains.{placed_rings_on}
use Rattle.lvl_count.specs.declared.counts.LayerRings.{LayerRings}

-- the list has exactly the Layers on which the cell `top` places rings, in their order, each with the number of these
-- rings
pub record AreCounted {F : Type 0} (rings : F → Rings) (cells : List (PlainCell F)) (top : PlainCell F)
    (layers : List LayerRings) : Type 0 where
  pub sorted : AllPairs (λ a b. ComesBefore a.layer b.layer) layers
  pub filled : All (λ l. 0 < l.rings) layers
  pub counted : All (λ l. l.rings ≡ placed_rings_on rings l.layer cells top) layers
  pub whole : (layer : Layer) → 0 < placed_rings_on rings layer cells top → Contains (map (λ l. l.layer) layers) layer
