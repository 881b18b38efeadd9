-- Which rings of a cell cover a square, where the cell is placed.
use Rattle.std.specs.Prelude.{map, ◌≡◌, ◌<◌, ℕ, List, length, slice_get, Some, Any, Contains}
use Rattle.lvl_grid.specs.declared.point.Point.{Point}
use Rattle.lvl_grid.specs.declared.point.Square.{Square}
use Rattle.lvl_grid.specs.declared.map.Map.{Map}
use Rattle.lvl_grid.specs.Turn.{shifted}
use Rattle.lvl_grid.specs.Placed.{IsPlaceOfCovered}
use Rattle.lvl_names.specs.declared.layer.Layer.{Layer}
use Rattle.lvl_cells.specs.Cells.{PlainShape, Rings, shape_at}
use Rattle.lvl_witness.specs.Boxes.{IsBoxOf}
use Rattle.lvl_witness.specs.Wide.{as_point}
use Rattle.lvl_witness.specs.declared.witness.PlacedRing.{PlacedRing}
use Rattle.lvl_flat.specs.inside.Drawn.{RingPlacesCover, ShapePlacesCover}

-- at the shift with this index, and then placed by the map, the ring covers the square
pub record IsCoveringPlace (m : Map) (q : Square) (shifts ring : List Point) (place : ℕ) : Type 0 where
  pub shift : Point
  pub shift_is : slice_get shifts place ≡ Some shift
  pub covers : IsPlaceOfCovered m shift ring q

-- the ring of the shape with the first index covers the square at the place with the second
pub record IsCoveringPart (m : Map) (q : Square) (h : PlainShape Rings) (part : ℕ × ℕ) : Type 0 where
  pub ring : List Point
  pub ring_is : slice_get h.figure part.0 ≡ Some ring
  pub place : IsCoveringPlace m q h.shifts ring part.1

-- one of the shapes is on a Layer of the list and, placed by the map, covers the square
abbrev pub ShapesCover : Map → List Layer → Square → List (PlainShape Rings) → Type 0
ShapesCover m layers q shapes = Any (λ h. Contains layers h.layer × ShapePlacesCover m q h) shapes

-- at no shift with an index below `place` does the ring, placed by the map, cover the square
abbrev pub NoneBefore : Map → Square → List Point → List Point → ℕ → Type 0
NoneBefore m q shifts ring place =
    (k : ℕ) (e : Point) → k < place → slice_get shifts k ≡ Some e → ¬ IsPlaceOfCovered m e ring q

-- no ring of the shape with an index below j covers the square at any of the shape's shifts
abbrev pub NoRingBefore : Map → Square → PlainShape Rings → ℕ → Type 0
NoRingBefore m q h j =
    (k : ℕ) (ring : List Point) → k < j → slice_get h.figure k ≡ Some ring → ¬ RingPlacesCover m h.shifts q ring

-- no shape with an index below i is on a Layer of the list and covers the square
abbrev pub NoShapeBefore : Map → List Layer → Square → List (PlainShape Rings) → ℕ → Type 0
NoShapeBefore m layers q shapes i =
    (k : ℕ) (h : PlainShape Rings) → k < i → slice_get shapes k ≡ Some h → Contains layers h.layer
    → ¬ ShapePlacesCover m q h

-- the ring is the one with these indexes, with the counts of what is beside it and its box at this place
pub record IsRingAt (shapes : List (PlainShape Rings)) (shape place ring : ℕ) (p : PlacedRing) : Type 0 where
  pub shape_is : p.shape ≡ shape
  pub place_is : p.place ≡ place
  pub ring_is : p.ring ≡ ring
  pub layer_is : p.layer ≡ (shape_at shapes shape).layer
  pub shapes_are : p.shapes ≡ length shapes
  pub places_are : p.places ≡ length (shape_at shapes shape).shifts
  pub rings_are : p.rings ≡ length (shape_at shapes shape).figure
  pub is_box : (e : Point) (points : List Point) → slice_get (shape_at shapes shape).shifts place ≡ Some e
      → slice_get (shape_at shapes shape).figure ring ≡ Some points
      → IsBoxOf (as_point p.low) (as_point p.high) (map (shifted e) points)
