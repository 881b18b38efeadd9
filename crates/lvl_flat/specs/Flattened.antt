-- What flattening returns, and when it is refused (own rules).
use Rattle.std.specs.Prelude.{◌≡◌, ◌↔◌, ℕ, List, length, slice_get, Some, All, Contains, IfSome, IsSomeAnd}
use Rattle.lvl_grid.specs.declared.map.Map.{Map}
use Rattle.lvl_grid.specs.declared.point.Point.{Point}
use Rattle.lvl_grid.specs.declared.point.Square.{Square}
use Rattle.lvl_grid.specs.declared.point.Window.{Window}
use Rattle.lvl_grid.specs.Clip.{IsInWindow}
use Rattle.lvl_grid.specs.Turn.{FitsPoint}
use Rattle.lvl_grid.specs.Placed.{placed_point}
use Rattle.lvl_grid.specs.Winding.{SomeCovers}
use Rattle.lvl_names.specs.declared.layer.Layer.{Layer}
use Rattle.lvl_cells.specs.Cells.{PlainCell, PlainShape, Rings, each_ring}
use Rattle.lvl_cells.specs.Coverage.{CellCovers}
use Rattle.lvl_cells.specs.Chains.{Chain, IsInRange, placed_rings_on}
use Rattle.lvl_cells.specs.Checks.{Settled}
use Rattle.lvl_flat.specs.declared.fault.FlatFault.{FlatFault}
use Rattle.lvl_flat.specs.declared.fault.FlatFault.TheVariants.{OutOfRange}
use Rattle.lvl_flat.specs.Sheet.{PlainSheet}
use Rattle.lvl_flat.specs.Sheets.{rings_on}

-- on each Layer the rings together cover exactly the squares that the cell covers
abbrev pub CoverAlike : List (PlainCell Rings) → PlainCell Rings → List PlainSheet → Type 0
CoverAlike cells c sheets =
    (layer : Layer) (s : Square) → SomeCovers (rings_on layer sheets) s ↔ CellCovers SomeCovers cells layer c s

-- on each Layer there are as many rings as chains from the cell place
abbrev pub AreAsMany : List (PlainCell Rings) → PlainCell Rings → List PlainSheet → Type 0
AreAsMany cells c sheets = (layer : Layer) → length (rings_on layer sheets) ≡ placed_rings_on each_ring layer cells c

-- the shift of every chain from the cell, and every vertex that it places, fits in 64 signed bits
abbrev pub AllInRange : List (PlainCell Rings) → PlainCell Rings → Type 0
AllInRange cells c = (n : ℕ) (m : Map) (d : PlainCell Rings) → Chain cells c n m d → IsInRange each_ring m d

-- that holds for the top
abbrev pub IsTopInRange : Settled → Type 0
IsTopInRange s = IfSome (slice_get s.cells s.top) (AllInRange s.cells)

-- the cell at an index covers the square on the Layer
abbrev pub CoversAt : List (PlainCell Rings) → ℕ → Layer → Square → Type 0
CoversAt cells i layer q = IsSomeAnd (slice_get cells i) (λ c. CellCovers SomeCovers cells layer c q)

-- the top covers the square on the Layer
abbrev pub TopCovers : Settled → Layer → Square → Type 0
TopCovers s layer q = IsSomeAnd (slice_get s.cells s.top) (λ top. CellCovers SomeCovers s.cells layer top q)

-- on each Layer the rings cover exactly what the top covers and are as many as it places, and all that it places is in
-- range
pub record IsFlattened (s : Settled) (sheets : List PlainSheet) : Type 0 where
  pub top : PlainCell Rings
  pub is_top : slice_get s.cells s.top ≡ Some top
  pub covers : CoverAlike s.cells top sheets
  pub count : AreAsMany s.cells top sheets
  pub in_range : AllInRange s.cells top

-- the Layer is in the list, and the square in the window
abbrev pub IsOfPart : List Layer → Window → Layer → Square → Type 0
IsOfPart layers window layer q = Contains layers layer × IsInWindow window q

-- on each Layer of the list the rings cover exactly the squares of the window that the top covers, and on other Layers
-- none; all that the top places, in the window or not, is in range
pub record IsFlattenedWithin (s : Settled) (layers : List Layer) (window : Window) (sheets : List PlainSheet)
    : Type 0 where
  pub top : PlainCell Rings
  pub is_top : slice_get s.cells s.top ≡ Some top
  pub covers : (layer : Layer) (q : Square) → SomeCovers (rings_on layer sheets) q
      ↔ (IsOfPart layers window layer q × CellCovers SomeCovers s.cells layer top q)
  pub in_range : AllInRange s.cells top

-- some chain from the top leads to a cell of that name, and the cell is out of range where the chain places it
pub record IsOutOfRange (s : Settled) (name : List ℕ) : Type 0 where
  pub top : PlainCell Rings
  pub is_top : slice_get s.cells s.top ≡ Some top
  pub steps : ℕ
  pub map : Map
  pub cell : PlainCell Rings
  pub chain : Chain s.cells top steps map cell
  pub named : cell.name ≡ name
  pub out : ¬ IsInRange each_ring map cell

-- the fault reports the name of such a cell
abbrev pub IsFlatFault : Settled → FlatFault → Type 0
IsFlatFault s (OutOfRange name) = IsOutOfRange s name.items

-- the vertices of the ring, moved by e and mapped, fit in 64 signed bits
abbrev pub FitsRing : Map → Point → List Point → Type 0
FitsRing m e ring = All (λ v. FitsPoint (placed_point m e v)) ring

-- that holds for each ring of the shapes at each of their shifts
abbrev pub FitShapes : Map → List (PlainShape Rings) → Type 0
FitShapes m shapes = All (λ h. All (λ e. All (FitsRing m e) h.figure) h.shifts) shapes

-- the fault reports this name
abbrev pub ReportsName : List ℕ → FlatFault → Type 0
ReportsName name (OutOfRange reported) = reported.items ≡ name
