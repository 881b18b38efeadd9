-- The box of each cell: a rectangle that has all that the cell places.
use Rattle.std.specs.Prelude.{◌≡◌, ℕ, List, slice_get, Option, Some, All, ◌≤ℤ◌}
use Rattle.lvl_grid.specs.declared.point.Point.{Point}
use Rattle.lvl_grid.specs.declared.map.Map.{Map}
use Rattle.lvl_grid.specs.Turn.{image, shifted, FitsPoint}
use Rattle.lvl_cells.specs.Cells.{PlainCell, PlainShape, Rings}
use Rattle.lvl_cells.specs.Chains.{Chain}
use Rattle.lvl_flat.specs.declared.bounds.Bounds.{Bounds}

-- the point is in the rectangle between the corners, borders included
pub record HoldsPoint (b : Bounds) (p : Point) : Type 0 where
  pub left : b.low.x ≤ℤ p.x
  pub right : p.x ≤ℤ b.high.x
  pub below : b.low.y ≤ℤ p.y
  pub above : p.y ≤ℤ b.high.y

-- the box has all vertices of the shape, each moved by each of its shifts and mapped
abbrev pub HoldsShape : Bounds → Map → PlainShape Rings → Type 0
HoldsShape b m h = All (λ e. All (λ ring. All (λ v. HoldsPoint b (image m (shifted e v))) ring) h.figure) h.shifts

-- the box has the shift of the map, and all vertices of the cell's own shapes, placed by the map
pub record HoldsCell (b : Bounds) (m : Map) (d : PlainCell Rings) : Type 0 where
  pub shift : HoldsPoint b m.at
  pub vertices : All (HoldsShape b m) d.shapes

-- that holds for the last cell and the map of each chain from the cell c
pub record HoldsChains (cells : List (PlainCell Rings)) (b : Bounds) (c : PlainCell Rings) : Type 0 where
  pub chains : (n : ℕ) (m : Map) (d : PlainCell Rings) → Chain cells c n m d → HoldsCell b m d

-- the corners of the box fit in 64 signed bits
pub record FitsBounds (b : Bounds) : Type 0 where
  pub low : FitsPoint b.low
  pub high : FitsPoint b.high

-- each box that is known fits in 64 signed bits and has all that its cell places
abbrev pub AreBoxes : List (PlainCell Rings) → List (Option Bounds) → Type 0
AreBoxes cells known =
    (k : ℕ) (b : Bounds) (c : PlainCell Rings) → slice_get known k ≡ Some (Some b) → slice_get cells k ≡ Some c
    → FitsBounds b × HoldsChains cells b c
