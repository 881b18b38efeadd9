-- Counts of rings while they are added up.
use Rattle.std.specs.Prelude.{◌≡◌, ℕ, ◌+◌, ◌*◌, ◌<◌, List, length, sum_by, All, AllPairs}
use Rattle.std.specs.Prelude.{slice_get, slice_index, slice_index_or, Some, Contains, if◌then◌else◌}
use Rattle.lvl_names.specs.declared.layer.Layer.{Layer}
use Rattle.lvl_names.specs.Layers.{ComesBefore, same_layer}
use Rattle.lvl_cells.specs.Cells.{PlainCell, PlainShape, Rings, each_ring}
use Rattle.lvl_cells.specs.Chains.{own_rings_on}
use Rattle.lvl_count.specs.declared.counts.LayerRings.{LayerRings}
use Rattle.lvl_cells.specs.Times.{at_place}

-- the counts are sorted by Layer, and no Layer has two
abbrev pub AreSorted : List LayerRings → Type 0
AreSorted counts = AllPairs (λ a b. ComesBefore a.layer b.layer) counts

-- the count at index `place` is that of the Layer
pub record IsCountOf (counts : List LayerRings) (layer : Layer) (place : ℕ) : Type 0 where
  pub low : place < length counts
  pub layer_is : (d : LayerRings) → (slice_index_or counts place d).layer ≡ layer

-- the count, increased by the number that f has for its Layer
abbrev pub more : (Layer → ℕ) → LayerRings → LayerRings
more f c = record { layer = c.layer; rings = c.rings + f c.layer }

-- the number of rings of the shapes on the Layer: each counts once for each shift of its shape
abbrev pub rings_on : Layer → List (PlainShape Rings) → ℕ
rings_on layer shapes = sum_by (λ h. if same_layer h.layer layer then length h.figure * length h.shifts else 0) shapes

-- the number of rings on the Layer of the cells at these indexes, each cell counted as often as `times` says
abbrev pub placed_on : Layer → List (PlainCell Rings) → List ℕ → List ℕ → ℕ
placed_on layer cells times places =
    sum_by (λ k. slice_index times k * at_place (own_rings_on each_ring layer) cells k) places

-- if the cell at index k is placed at all, the Layers of its shapes are in the list
abbrev pub AreListed : List (PlainCell Rings) → List ℕ → List Layer → ℕ → Type 0
AreListed cells times layers k =
    0 < slice_index times k → (c : PlainCell Rings) → slice_get cells k ≡ Some c
    → All (λ h. Contains layers h.layer) c.shapes
