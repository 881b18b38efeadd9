-- The cells of a file as they are kept while it is read.
use Rattle.std.specs.Prelude.{◌≡◌, ◌<◌, ℕ, List, [], ◌∷◌, get_or, length}
use Rattle.lvl_grid.specs.declared.map.Map.{Map}
use Rattle.lvl_grid.specs.declared.point.Point.{Point}
use Rattle.lvl_cells.specs.Cells.{PlainPlacement, Rings}
use Rattle.oasis_figures.specs.Figures.{Placed}
use Rattle.oasis_records.specs.declared.cell.CellRef.{CellRef}
use Rattle.oasis_records.specs.declared.cell.CellRef.TheVariants.{Number, Name}
use Rattle.oasis_library.specs.Cells.{PlainDrawing}
use Rattle.oasis_library.specs.declared.placement.Target.{Target}
use Rattle.oasis_library.specs.declared.placement.Target.TheVariants.{Number as ByNumber, Name as ByName}

-- the cell that a target is
abbrev pub target_ref : Target → CellRef
target_ref (ByNumber n) = Number n
target_ref (ByName s) = Name s

-- the target at an index is this cell
pub record IsKeyOf (targets : List Target) (k : ℕ) (cell : CellRef) : Type 0 where
  pub within : k < length targets
  pub is : target_ref (get_or targets k (ByNumber 0)) ≡ cell

-- a placement of the cell by the map, at each of the shifts
abbrev pub placed : CellRef → Map → List Point → Placed
placed cell by shifts = record { cell = cell; flip = by.flip; turn = by.turn; at = by.at; shifts = shifts }

-- the placement of the target with its key
abbrev pub placed_from : List Target → PlainPlacement → Placed
placed_from targets p = record {
  cell = target_ref (get_or targets p.key (ByNumber 0));
  flip = p.flip;
  turn = p.turn;
  at = p.at;
  shifts = p.shifts;
}

-- a cell that has no shapes or placements yet
abbrev pub begun : CellRef → PlainDrawing Rings
begun name = record { name = name; shapes = []; placements = [] }

-- the list with its last element changed
abbrev pub on_last : {A : Type 0} → (A → A) → List A → List A
on_last f [] = []
on_last f (x ∷ []) = f x ∷ []
on_last f (x ∷ y ∷ ys) = x ∷ on_last f (y ∷ ys)
