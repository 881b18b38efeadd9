-- Witnesses: why a top covers a square (own rules).
use Rattle.std.specs.Prelude.{map, ◌≡◌, ℕ, zero, suc, List, length, slice_get, Some, IsSomeAnd, Contains}
use Rattle.lvl_grid.specs.declared.point.Point.{Point}
use Rattle.lvl_grid.specs.declared.point.Square.{Square}
use Rattle.lvl_grid.specs.declared.map.Map.{Map}
use Rattle.lvl_grid.specs.Turn.{shifted}
use Rattle.lvl_grid.specs.Placed.{IsPlaceOfCovered}
use Rattle.lvl_names.specs.declared.layer.Layer.{Layer}
use Rattle.lvl_cells.specs.Cells.{PlainCell, PlainShape, PlainReference, Rings, map_at, cell_named}
use Rattle.lvl_cells.specs.Chains.{Chain, IsComposed, unmoved}
use Rattle.lvl_cells.specs.Checks.{Settled}
use Rattle.lvl_witness.specs.Boxes.{IsBoxOf}
use Rattle.lvl_witness.specs.Wide.{as_point}
use Rattle.lvl_witness.specs.declared.witness.Step.{Step}
use Rattle.lvl_witness.specs.declared.witness.PlacedRing.{PlacedRing}

-- the step names a reference of the cell c and one of its shifts, which lead to the cell d; if c is placed by the map
-- w, this places d by the map m
pub record LeadsOn (cells : List (PlainCell Rings)) (w : Map) (c : PlainCell Rings) (m : Map) (d : PlainCell Rings)
    (step : Step) : Type 0 where
  pub reference : PlainReference
  pub reference_is : slice_get c.references step.reference ≡ Some reference
  pub references_are : step.references ≡ length c.references
  pub shift : Point
  pub shift_is : slice_get reference.shifts step.place ≡ Some shift
  pub places_are : step.places ≡ length reference.shifts
  pub named : cell_named cells reference.cell ≡ Some d
  pub cell_is : slice_get cells step.cell ≡ Some d
  pub map_is : step.map ≡ map_at reference shift
  pub composed : IsComposed w step.map m

-- the first n of the steps lead from the top to the cell d and place it by the map m
abbrev pub Leads : List (PlainCell Rings) → PlainCell Rings → List Step → ℕ → Map → PlainCell Rings → Type 0
Leads cells top steps zero m d = (m ≡ unmoved) × (d ≡ top)
Leads cells top steps (suc n) m d =
    (w : Map) × (c : PlainCell Rings) × Leads cells top steps n w c
    × IsSomeAnd (slice_get steps n) (LeadsOn cells w c m d)

-- the ring is that of one of the shapes, on a Layer of the list; at that place of the shape, and then placed by the map
-- m, it covers the square q. The box is that of the ring at this place, in the coordinates of the shapes
pub record IsCoveringRing (shapes : List (PlainShape Rings)) (m : Map) (layers : List Layer) (q : Square)
    (p : PlacedRing) : Type 0 where
  pub shape : PlainShape Rings
  pub shape_is : slice_get shapes p.shape ≡ Some shape
  pub shapes_are : p.shapes ≡ length shapes
  pub layer_is : p.layer ≡ shape.layer
  pub listed : Contains layers p.layer
  pub shift : Point
  pub shift_is : slice_get shape.shifts p.place ≡ Some shift
  pub places_are : p.places ≡ length shape.shifts
  pub ring : List Point
  pub ring_is : slice_get shape.figure p.ring ≡ Some ring
  pub rings_are : p.rings ≡ length shape.figure
  pub covers : IsPlaceOfCovered m shift ring q
  pub is_box : IsBoxOf (as_point p.low) (as_point p.high) (map (shifted shift) ring)

-- the steps lead from the top to a cell, as a chain of references does, and the ring is one of this cell that covers the
-- square as they place it
pub record IsWitness (s : Settled) (layers : List Layer) (q : Square) (steps : List Step) (ring : PlacedRing)
    : Type 0 where
  pub top : PlainCell Rings
  pub is_top : slice_get s.cells s.top ≡ Some top
  pub map : Map
  pub cell : PlainCell Rings
  pub leads : Leads s.cells top steps (length steps) map cell
  pub chain : Chain s.cells top (length steps) map cell
  pub covers : IsCoveringRing cell.shapes map layers q ring
