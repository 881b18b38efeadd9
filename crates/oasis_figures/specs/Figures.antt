-- What a record of a cell draws (SEMI P39 OASIS 1.0, the section of each record). `earlier` are the records of the cell
-- before it, the latest first.
use Rattle.std.specs.Prelude.{◌≡◌, ℕ, ◌*◌, ◌==◌, not, ℤ, pos, Bool, false, if◌then◌else◌, List, [], ◌∷◌, map, Option}
use Rattle.std.specs.Prelude.{Some, None, All, unwrap_or}
use Rattle.lvl_grid.specs.declared.point.Point.{Point}
use Rattle.lvl_grid.specs.Turn.{FitsPoint, shifted}
use Rattle.lvl_grid.specs.Winding.{rectangle_between}
use Rattle.lvl_grid.specs.declared.map.Turn.{Turn}
use Rattle.lvl_grid.specs.declared.map.Turn.TheVariants.{R0, R90, R180, R270}
use Rattle.lvl_path.specs.Figure.{Figure, rings, path, figure_rings}
use Rattle.lvl_cells.specs.Cells.{PlainShape, Rings as PlainRings}
use Rattle.lvl_names.specs.Shifts.{one_place}
use Rattle.lvl_names.specs.declared.layer.Layer.{Layer}
use Rattle.oasis_values.specs.Deltas.{to}
use Rattle.oasis_values.specs.declared.repetition.Repetition.{Repetition}
use Rattle.oasis_records.specs.declared.record.Record.{Record}
use Rattle.oasis_values.specs.declared.number.Real.{Real}
use Rattle.oasis_values.specs.declared.number.Real.TheVariants.{Whole, Reciprocal, Ratio}
use Rattle.oasis_records.specs.declared.cell.CellRef.{CellRef}
use Rattle.oasis_records.specs.declared.cell.CellRef.TheVariants.{Number}
use Rattle.oasis_records.specs.declared.placement.Transform.{Transform}
use Rattle.oasis_records.specs.declared.placement.Transform.TheVariants.{Turned, Scaled}
use Rattle.oasis_records.specs.declared.record.Record.TheVariants.{Placement, Rectangle, Polygon, Path}
use Rattle.oasis_figures.specs.Modal.{modal, layer_set, datatype_set, width_set, height_set, repetition_set}
use Rattle.oasis_figures.specs.Modal.{repetition_of, geometry}
use Rattle.oasis_figures.specs.Modal.{cell_set, polygon_set, half_width_set, path_set, start_set, end_set, placement}
use Rattle.oasis_figures.specs.declared.drawn.DrawnRecord.{DrawnRecord}
use Rattle.oasis_figures.specs.declared.drawn.DrawnRecord.TheVariants.{Rectangle as Corners, Ring, Rings}
use Rattle.oasis_figures.specs.declared.drawn.DrawnRecord.TheVariants.{Placement as Placing}

-- the value of a variable; 0 if it is undefined
abbrev pub number : Option ℕ → ℕ
number n = unwrap_or n 0

-- a Layer
abbrev pub layer_by : ℕ → ℕ → Layer
layer_by layer datatype = record { layer = layer; datatype = datatype }

-- the Layer of the latest figure
abbrev pub layer_of : List Record → Layer
layer_of records = layer_by (number (modal layer_set records)) (number (modal datatype_set records))

-- the corners of the latest rectangle, whose lower left one is at its position
abbrev pub rectangle_ring : List Record → List Point
rectangle_ring records =
    let size : Point = to (pos (number (modal width_set records))) (pos (number (modal height_set records))) in
    rectangle_between (geometry records) (shifted size (geometry records))

-- the points of a list, moved so that the first is at the position of the latest figure
abbrev pub vertices : List Record → Option (List Point) → List Point
vertices records points = map (shifted (geometry records)) (unwrap_or points [])

-- the ring of the latest polygon
abbrev pub polygon_ring : List Record → List Point
polygon_ring records = vertices records (modal polygon_set records)

-- the points of the latest path
abbrev pub path_points : List Record → List Point
path_points records = vertices records (modal path_set records)

-- the reach beyond an end: the extension as a natural number; 0 if it is undefined or negative
abbrev pub reach : Option ℤ → ℕ
reach (Some (pos n)) = n
reach z = 0

-- half the width of the latest path
abbrev pub half_of : List Record → ℕ
half_of records = number (modal half_width_set records)

-- how far the latest path reaches beyond its start
abbrev pub start_of : List Record → ℕ
start_of records = reach (modal start_set records)

-- how far the latest path reaches beyond its end
abbrev pub end_of : List Record → ℕ
end_of records = reach (modal end_set records)

-- the latest path
abbrev pub path_figure : List Record → Figure
path_figure records =
    path (path_points records) (record { half = half_of records; start = start_of records; end = end_of records })

-- the shifts of a record: those of its repetition, or only the zero shift
abbrev pub shifts_by : Option Repetition → Option (List Point) → List Point
shifts_by None shifts = one_place
shifts_by (Some r) shifts = unwrap_or shifts one_place

-- the shifts of the record r
abbrev pub shifts_of : List Record → Record → List Point
shifts_of earlier r = shifts_by (repetition_of r) (modal repetition_set (r ∷ earlier))

-- the shape of the record r with this figure
abbrev pub shape : List Record → Record → Figure → PlainShape Figure
shape earlier r figure = record { layer = layer_of (r ∷ earlier); figure = figure; shifts = shifts_of earlier r }

-- the shapes that a record draws
abbrev pub shapes_of : List Record → Record → List (PlainShape Figure)
shapes_of earlier (Rectangle r) =
    shape earlier (Rectangle r) (rings (rectangle_ring (Rectangle r ∷ earlier) ∷ [])) ∷ []
shapes_of earlier (Polygon p) = shape earlier (Polygon p) (rings (polygon_ring (Polygon p ∷ earlier) ∷ [])) ∷ []
shapes_of earlier (Path p) = shape earlier (Path p) (path_figure (Path p ∷ earlier)) ∷ []
shapes_of earlier r = []

-- whether a real of type 0, 2 or 4 is the number n
abbrev pub is_number : ℕ → Real → Bool
is_number n (Whole k) = k == n
is_number n (Reciprocal k) = n * k == 1
is_number n (Ratio k m) = k == n * m
is_number n r = false

-- the turn by an angle that is 0, 90, 180 or 270 degrees as a real of type 0, 2 or 4; None for any other (own rule)
abbrev pub turn_by : Real → Option Turn
turn_by a =
    if is_number 0 a then Some R0
    else (if is_number 90 a then Some R90
    else (if is_number 180 a then Some R180
    else (if is_number 270 a then Some R270 else None)))

-- the turn of a placement; without an angle there is none
abbrev pub turn_of : Transform → Option Turn
turn_of (Turned t) = Some t
turn_of (Scaled m None) = Some R0
turn_of (Scaled m (Some a)) = turn_by a

-- whether the magnification of a placement isn't 1; without one it is 1
abbrev pub is_magnified : Transform → Bool
is_magnified (Turned t) = false
is_magnified (Scaled None a) = false
is_magnified (Scaled (Some m) a) = not (is_number 1 m)

-- the cell of the latest placement that names one
abbrev pub cell_of : List Record → CellRef
cell_of records = unwrap_or (modal cell_set records) (Number 0)

-- a placement of a cell that is given by its number or its name
pub record Placed : Type 0 where
  pub cell : CellRef
  pub flip : Bool
  pub turn : Turn
  pub at : Point
  pub shifts : List Point

-- the placements of a record
abbrev pub placements_of : List Record → Record → List Placed
placements_of earlier (Placement p) =
    record {
      cell = cell_of (Placement p ∷ earlier);
      flip = p.flip;
      turn = unwrap_or (turn_of p.transform) R0;
      at = placement (Placement p ∷ earlier);
      shifts = shifts_of earlier (Placement p);
    }
    ∷ []
placements_of earlier r = []

-- the same shape, with its figure as rings
abbrev pub in_rings : PlainShape Figure → PlainShape PlainRings
in_rings s = record { layer = s.layer; figure = figure_rings s.figure; shifts = s.shifts }

-- the shapes in what `take` returns, at these shifts
abbrev pub shapes_in : List Point → Option DrawnRecord → List (PlainShape PlainRings)
shapes_in shifts None = []
shapes_in shifts (Some (Corners layer low high)) =
    record { layer = layer; figure = rectangle_between low high ∷ []; shifts = shifts } ∷ []
shapes_in shifts (Some (Ring layer ring)) = record { layer = layer; figure = ring ∷ []; shifts = shifts } ∷ []
shapes_in shifts (Some (Rings layer rs)) = record { layer = layer; figure = rs.items; shifts = shifts } ∷ []
shapes_in shifts (Some (Placing by)) = []

-- the placement in what `take` returns, of this cell at these shifts
abbrev pub placements_in : CellRef → List Point → Option DrawnRecord → List Placed
placements_in cell shifts None = []
placements_in cell shifts (Some (Corners layer low high)) = []
placements_in cell shifts (Some (Ring layer ring)) = []
placements_in cell shifts (Some (Rings layer rs)) = []
placements_in cell shifts (Some (Placing by)) =
    record { cell = cell; flip = by.flip; turn = by.turn; at = by.at; shifts = shifts } ∷ []

-- what `take` returns is what the record draws, with each figure as rings, and what it places
pub record IsDrawn (earlier : List Record) (r : Record) (d : Option DrawnRecord) : Type 0 where
  pub shapes : shapes_in (shifts_of earlier r) d ≡ map in_rings (shapes_of earlier r)
  pub placements : placements_in (cell_of (r ∷ earlier)) (shifts_of earlier r) d ≡ placements_of earlier r

-- if a cell is placed, its place at each of these shifts fits in 64 signed bits
abbrev pub PlacesFit : List Point → Option DrawnRecord → Type 0
PlacesFit shifts None = Unit {0}
PlacesFit shifts (Some (Corners layer low high)) = Unit {0}
PlacesFit shifts (Some (Ring layer ring)) = Unit {0}
PlacesFit shifts (Some (Rings layer rs)) = Unit {0}
PlacesFit shifts (Some (Placing by)) = All (λ e. FitsPoint (shifted by.at e)) shifts
