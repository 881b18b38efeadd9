-- Placements: the cells that references place, one for each place.
use Rattle.std.specs.Prelude.{◌≡◌, ◌↔◌, ◌⊎◌, ℕ, List, map, slice_get, Some, Any, Contains}
use Rattle.lvl_grid.specs.declared.point.Square.{Square}
use Rattle.lvl_grid.specs.Turn.{image_square}
use Rattle.lvl_names.specs.declared.layer.Layer.{Layer}
use Rattle.lvl_cells.specs.Cells.{PlainCell, PlainReference, Rings, map_at}
use Rattle.lvl_flat.specs.Flattened.{CoversAt}
use Rattle.lvl_flat.specs.inside.Visits.{picks, PickCovers}
use Rattle.lvl_view.specs.declared.map.LayerPair.{LayerPair}
use Rattle.lvl_view.specs.Moved.{IsMoved}
use Rattle.lvl_changed.specs.declared.placements.Placement.{Placement}
use Rattle.lvl_changed.specs.declared.area.Area.{Area}
use Rattle.lvl_changed.specs.inside.Areas.{AlikeOutside}

-- the cell with the index k, placed at each place of the reference
abbrev pub placed : ℕ → PlainReference → List Placement
placed k r = map (λ e. record { cell = k; map = map_at r e }) r.shifts

-- the placed cell covers the square s: it is the image of a square that the cell covers
abbrev pub PlacementCovers : List (PlainCell Rings) → Layer → Square → Placement → Type 0
PlacementCovers cells layer s p = (t : Square) × (image_square p.map t ≡ s) × CoversAt cells p.cell layer t

-- at least one of the placements covers the square
abbrev pub PlacedCover : List (PlainCell Rings) → List Placement → Layer → Square → Type 0
PlacedCover cells placements layer s = Any (PlacementCovers cells layer s) placements

-- both lists of placements cover the same
abbrev pub PlaceSame : List Placement → List Placement → Type 0
PlaceSame ps qs =
    (cells : List (PlainCell Rings)) (layer : Layer) (s : Square)
    → PlacedCover cells ps layer s ↔ PlacedCover cells qs layer s

-- a cell that one of the references places covers the square
abbrev pub ReferencesCover : List (PlainCell Rings) → List PlainReference → Layer → Square → Type 0
ReferencesCover cells references layer s = Any (PickCovers cells layer s) (picks references)

-- `left` covers a part of what the placements cover, and all that the others don't
pub record AreLeftPlaces (placements others left : List Placement) : Type 0 where
  pub inside : (cells : List (PlainCell Rings)) (layer : Layer) (s : Square)
      → PlacedCover cells left layer s → PlacedCover cells placements layer s
  pub held : (cells : List (PlainCell Rings)) (layer : Layer) (s : Square)
      → PlacedCover cells placements layer s → PlacedCover cells left layer s ⊎ PlacedCover cells others layer s

-- outside of the area, the references of cell i of the first library cover the same squares as those of cell j of
-- the second under the map of Layers
abbrev pub ReferAlike : Area → List LayerPair → List (PlainCell Rings) → ℕ → List (PlainCell Rings) → ℕ → Type 0
ReferAlike w pairs ours i theirs j =
    (c d : PlainCell Rings) → slice_get ours i ≡ Some c → slice_get theirs j ≡ Some d
    → AlikeOutside w (ReferencesCover ours c.references) (IsMoved pairs (ReferencesCover theirs d.references))

-- both lists have the same placements
abbrev pub HaveSame : List Placement → List Placement → Type 0
HaveSame ps qs = (p : Placement) → Contains ps p ↔ Contains qs p
