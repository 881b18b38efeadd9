-- The cells of a list of records (SEMI P39 OASIS 1.0, "CELL record").
use Rattle.std.specs.Prelude.{if◌then◌else◌, List, [], ◌∷◌, ◌++◌, map}
use Rattle.lvl_path.specs.Figure.{Figure}
use Rattle.lvl_cells.specs.Cells.{PlainShape, Rings}
use Rattle.oasis_records.specs.declared.cell.CellRef.{CellRef}
use Rattle.oasis_records.specs.declared.record.Record.{Record}
use Rattle.oasis_figures.specs.Figures.{Placed, shapes_of, placements_of, in_rings}
use Rattle.oasis_stream.specs.Order.{cell_in}
use Rattle.oasis_stream.specs.Rules.{is_cell}

-- a cell by its number or its name, with its shapes and placements, in the order of the file
pub record PlainDrawing (F : Type 0) : Type 0 where
  pub name : CellRef
  pub shapes : List (PlainShape F)
  pub placements : List Placed

-- what the records up to the next CELL give: `f earlier r` is what r gives after the records `earlier` of its cell, the
-- latest first
abbrev pub to_next_cell : {A : Type 0} → (List Record → Record → List A) → List Record → List Record → List A
to_next_cell f earlier [] = []
to_next_cell f earlier (r ∷ rs) = if is_cell r then [] else f earlier r ++ to_next_cell f (r ∷ earlier) rs

-- the cell `name` whose records are the next ones
abbrev pub drawing : List Record → CellRef → PlainDrawing Figure
drawing rs name =
    record { name = name; shapes = to_next_cell shapes_of [] rs; placements = to_next_cell placements_of [] rs }

-- a file has a cell for each CELL, in the order of the file
abbrev pub drawings : List Record → List (PlainDrawing Figure)
drawings [] = []
drawings (r ∷ rs) = map (drawing rs) (cell_in r) ++ drawings rs

-- the same cell, with each figure as rings
abbrev pub with_rings : PlainDrawing Figure → PlainDrawing Rings
with_rings d = record { name = d.name; shapes = map in_rings d.shapes; placements = d.placements }
