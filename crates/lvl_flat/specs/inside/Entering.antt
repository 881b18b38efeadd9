-- Entering a cell: its shapes are drawn, and a visit of it is put on the stack.
use Rattle.std.specs.Prelude.{◌≡◌, ◌⊎◌, ◌++◌, ◌∷◌, [], ℕ, List, slice_get, Some}
use Rattle.lvl_grid.specs.declared.map.Map.{Map}
use Rattle.lvl_cells.specs.Cells.{PlainCell, Rings}
use Rattle.lvl_flat.specs.declared.fault.FlatFault.{FlatFault}
use Rattle.lvl_flat.specs.declared.fault.FlatFault.TheVariants.{OutOfRange}
use Rattle.lvl_flat.specs.declared.scope.Scope.{Scope}
use Rattle.lvl_flat.specs.declared.visit.Visit.{Visit}
use Rattle.lvl_flat.specs.inside.Drawn.{AreDrawn}
use Rattle.lvl_flat.specs.Flattened.{FitShapes}
use Rattle.lvl_flat.specs.inside.Visits.{pending}
use Rattle.lvl_flat.specs.Sheet.{PlainSheet}

-- the visit is put on the stack, or it has nothing left to follow
abbrev pub IsPushed : List (PlainCell Rings) → List Visit → Visit → List Visit → Type 0
IsPushed cells old v new = (new ≡ old ++ v ∷ []) ⊎ ((new ≡ old) × (pending cells v ≡ []))

-- a visit of cell i, placed by the map m, that has followed no reference yet
abbrev pub begun : ℕ → Map → Visit
begun i m = record { cell = i; map = m; reference = 0; place = 0; row = 0 }

-- the shapes of cell i, placed by the map, are drawn
pub record IsDrawn (cells : List (PlainCell Rings)) (i : ℕ) (m : Map) (scope : Scope) (old new : List PlainSheet)
    : Type 0 where
  pub cell : PlainCell Rings
  pub there : slice_get cells i ≡ Some cell
  pub drawn : AreDrawn m scope cell.shapes old new

-- a vertex of cell i's own shapes, placed by the map, is out of range, and `name` is the name of the cell
pub record IsCellOut (cells : List (PlainCell Rings)) (i : ℕ) (m : Map) (name : List ℕ) : Type 0 where
  pub cell : PlainCell Rings
  pub there : slice_get cells i ≡ Some cell
  pub named : cell.name ≡ name
  pub out : ¬ FitShapes m cell.shapes

-- the fault reports the name of such a cell
abbrev pub IsEnterFault : List (PlainCell Rings) → ℕ → Map → FlatFault → Type 0
IsEnterFault cells i m (OutOfRange name) = IsCellOut cells i m name.items
