-- A cell's own shapes, placed by a map and drawn.
use Rattle.std.specs.Prelude.{◌≡◌, ◌↔◌, ◌⊎◌, ◌+◌, ◌*◌, ℕ, List, length, map, sum_by, All, Any, Contains, if◌then◌else◌}
use Rattle.std.specs.Prelude.{IsSomeAnd, slice_get}
use Rattle.lvl_grid.specs.declared.point.Point.{Point}
use Rattle.lvl_grid.specs.declared.point.Square.{Square}
use Rattle.lvl_grid.specs.declared.map.Map.{Map}
use Rattle.lvl_grid.specs.Placed.{IsPlaceOfCovered}
use Rattle.lvl_grid.specs.Winding.{SomeCovers}
use Rattle.lvl_names.specs.declared.layer.Layer.{Layer}
use Rattle.lvl_names.specs.Layers.{same_layer}
use Rattle.lvl_cells.specs.Cells.{PlainShape, Rings}
use Rattle.lvl_flat.specs.declared.scope.Scope.{Scope}
use Rattle.lvl_flat.specs.declared.scope.Scope.TheVariants.{Everything}
use Rattle.lvl_flat.specs.Flattened.{FitsRing}
use Rattle.lvl_flat.specs.Sheet.{PlainSheet}
use Rattle.lvl_flat.specs.Sheets.{HaveSheets, rings_on}
use Rattle.lvl_flat.specs.inside.Scopes.{IsInScope, IsOfScope}

-- the placed ring fits in 64 signed bits at each of the shifts
abbrev pub FitsAtEach : Map → List Point → List Point → Type 0
FitsAtEach m shifts ring = All (λ e. FitsRing m e ring) shifts

-- at one of the shifts the placed ring covers the square
abbrev pub RingPlacesCover : Map → List Point → Square → List Point → Type 0
RingPlacesCover m shifts q ring = Any (λ e. IsPlaceOfCovered m e ring q) shifts

-- some placed ring of the shape covers the square
abbrev pub ShapePlacesCover : Map → Square → PlainShape Rings → Type 0
ShapePlacesCover m q h = Any (RingPlacesCover m h.shifts q) h.figure

-- some placed shape on the Layer covers the square
abbrev pub ShapesPlaceCover : Layer → Map → Square → List (PlainShape Rings) → Type 0
ShapesPlaceCover layer m q shapes = Any (λ h. (h.layer ≡ layer) × ShapePlacesCover m q h) shapes

-- the ring is drawn at each of the shifts: the rings `new` cover what `old` do, and what the placed ring covers of the
-- scope. If everything is drawn, there is one more for each shift
pub record IsRingDrawn (m : Map) (scope : Scope) (shifts ring : List Point) (old new : Rings) : Type 0 where
  pub covers : (q : Square) → SomeCovers new q
      ↔ (SomeCovers old q ⊎ (IsInScope scope q × RingPlacesCover m shifts q ring))
  pub fits : FitsAtEach m shifts ring
  pub count : scope ≡ Everything → length new ≡ length old + length shifts

-- that holds for each ring of a figure
pub record IsFigureDrawn (m : Map) (scope : Scope) (shifts : List Point) (figure old new : Rings) : Type 0 where
  pub covers : (q : Square) → SomeCovers new q
      ↔ (SomeCovers old q ⊎ (IsInScope scope q × Any (RingPlacesCover m shifts q) figure))
  pub fits : All (FitsAtEach m shifts) figure
  pub count : scope ≡ Everything → length new ≡ length old + length figure * length shifts

-- the number of rings that the shapes place on the Layer
abbrev pub rings_of : Layer → List (PlainShape Rings) → ℕ
rings_of layer shapes = sum_by (λ h. if same_layer h.layer layer then length h.figure * length h.shifts else 0) shapes

-- the shapes whose Layers have sheets are drawn on them. If everything is drawn, and each shape has a sheet, there are as
-- many rings more on each Layer as the shapes place
pub record AreDrawn (m : Map) (scope : Scope) (shapes : List (PlainShape Rings)) (old new : List PlainSheet) : Type 0 where
  pub covers : (layer : Layer) (q : Square) → SomeCovers (rings_on layer new) q
      ↔ (SomeCovers (rings_on layer old) q
      ⊎ (IsOfScope (map (λ s. s.layer) old) scope layer q × ShapesPlaceCover layer m q shapes))
  pub fits : All (λ h. Contains (map (λ s. s.layer) old) h.layer → All (λ e. All (FitsRing m e) h.figure) h.shifts)
      shapes
  pub count : scope ≡ Everything → HaveSheets old shapes → (layer : Layer)
      → length (rings_on layer new) ≡ length (rings_on layer old) + rings_of layer shapes
  pub layers : map (λ s. s.layer) new ≡ map (λ s. s.layer) old

-- that holds for one shape, if its Layer has a sheet
pub record IsShapeDrawn (m : Map) (scope : Scope) (h : PlainShape Rings) (old new : List PlainSheet) : Type 0 where
  pub covers : (layer : Layer) (q : Square) → SomeCovers (rings_on layer new) q
      ↔ (SomeCovers (rings_on layer old) q
      ⊎ (IsOfScope (map (λ s. s.layer) old) scope layer q × ((h.layer ≡ layer) × ShapePlacesCover m q h)))
  pub fits : Contains (map (λ s. s.layer) old) h.layer → All (λ e. All (FitsRing m e) h.figure) h.shifts
  pub count : scope ≡ Everything → Contains (map (λ s. s.layer) old) h.layer → (layer : Layer)
      → length (rings_on layer new)
      ≡ length (rings_on layer old) + (if same_layer h.layer layer then length h.figure * length h.shifts else 0)
  pub layers : map (λ s. s.layer) new ≡ map (λ s. s.layer) old

-- there is a shape with index i, it is on the Layer, and placed it covers the square
abbrev pub PlacesAt : Layer → Map → Square → List (PlainShape Rings) → ℕ → Type 0
PlacesAt layer m q shapes i = IsSomeAnd (slice_get shapes i) (λ h. (h.layer ≡ layer) × ShapePlacesCover m q h)

-- the shape with index i is drawn, if there is one and its Layer has a sheet
pub record IsDrawnAt (m : Map) (scope : Scope) (shapes : List (PlainShape Rings)) (i : ℕ) (old new : List PlainSheet)
    : Type 0 where
  pub covers : (layer : Layer) (q : Square) → SomeCovers (rings_on layer new) q
      ↔ (SomeCovers (rings_on layer old) q
      ⊎ (IsOfScope (map (λ s. s.layer) old) scope layer q × PlacesAt layer m q shapes i))
  pub layers : map (λ s. s.layer) new ≡ map (λ s. s.layer) old

-- that holds for each index of a list
pub record AreDrawnAt (m : Map) (scope : Scope) (shapes : List (PlainShape Rings)) (list : List ℕ)
    (old new : List PlainSheet) : Type 0 where
  pub covers : (layer : Layer) (q : Square) → SomeCovers (rings_on layer new) q
      ↔ (SomeCovers (rings_on layer old) q
      ⊎ (IsOfScope (map (λ s. s.layer) old) scope layer q × Any (PlacesAt layer m q shapes) list))
  pub layers : map (λ s. s.layer) new ≡ map (λ s. s.layer) old
