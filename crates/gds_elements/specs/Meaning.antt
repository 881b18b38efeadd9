-- What the records of an element mean (GDSII Stream Format Manual, Release 6, BOUNDARY, PATH, SREF, AREF and TEXT). If
-- there are several of a type, the last one counts (own rule; the order allows one).
use Rattle.std.specs.Prelude.{ℕ, ◌/◌, ◌==◌, ◌-ℤ◌, pos, if◌then◌else◌, List, [], ◌∷◌, Option, Some, None}
use Rattle.std.specs.Int.RustNames.{int_div}
use Rattle.std.specs.Ordering.{int_eq}
use Rattle.lvl_grid.specs.declared.point.Point.{Point}
use Rattle.lvl_path.specs.Figure.{Figure, rings, path as path_along, figure_rings}
use Rattle.lvl_names.specs.declared.layer.Layer.{Layer}
use Rattle.lvl_cells.specs.Cells.{PlainShape, PlainReference, Rings}
use Rattle.lvl_names.specs.Shifts.{lattice, one_place}
use Rattle.gds_elements.specs.Types.{boundary, path, sref, aref, layer, datatype, width, xy, sname, colrow, strans}
use Rattle.gds_elements.specs.Types.{angle, pathtype}
use Rattle.gds_elements.specs.Rec.{Rec, opener, field, last_of}
use Rattle.gds_elements.specs.Values.{short, long, points, nth, name, magnitude, but_last, flips, turn, columns, rows}

-- the layer and datatype of a shape
abbrev pub layer_of : List Rec → Layer
layer_of piece =
    record { layer = magnitude (short (field layer piece)); datatype = magnitude (short (field datatype piece)) }

-- half the width in a WIDTH, in grid steps
abbrev pub half : List ℕ → ℕ
half p = magnitude (long p) / 2

-- how far a path reaches beyond its ends: half its width if its PATHTYPE is 2, otherwise nothing
abbrev pub end_reach : List ℕ → ℕ → ℕ
end_reach p h = if int_eq (short p) (pos 2) then h else 0

-- half the width of a path; 0 without a WIDTH
abbrev pub half_of : List Rec → ℕ
half_of piece = half (field width piece)

-- how far a path reaches beyond both ends
abbrev pub end_of : List Rec → ℕ
end_of piece = end_reach (field pathtype piece) (half_of piece)

-- a boundary is the ring of its points without the last, at the zero shift
abbrev pub boundary_shape : List Rec → PlainShape Figure
boundary_shape piece =
    record { layer = layer_of piece; figure = rings (but_last (points (field xy piece)) ∷ []); shifts = one_place }

-- a path is the figure along its points, at the zero shift
abbrev pub path_shape : List Rec → PlainShape Figure
path_shape piece =
    record {
      layer = layer_of piece;
      figure = path_along (points (field xy piece)) (record {
        half = half_of piece;
        start = end_of piece;
        end = end_of piece;
      });
      shifts = one_place;
    }

-- a reference to the cell of that name, reflected, turned, and placed at the first point moved by each of the shifts
abbrev pub reference : List Rec → List Point → PlainReference
reference piece shifts = record {
  cell = name (field sname piece);
  flip = flips (field strans piece);
  turn = turn (field angle piece);
  at = nth (points (field xy piece)) 0;
  shifts = shifts;
}

-- the step from p to q divided by n, for distances that n divides
abbrev pub step : Point → Point → ℕ → Point
step p q n = record { x = int_div (q.x -ℤ p.x) (pos n); y = int_div (q.y -ℤ p.y) (pos n) }

-- the shifts of an array with m columns and n rows: m column steps lead from the first point to the second, and n row
-- steps from the first to the third
abbrev pub array_shifts : List Point → ℕ → ℕ → List Point
array_shifts ps m n = lattice (step (nth ps 0) (nth ps 1) m) m (step (nth ps 0) (nth ps 2) n) n

-- the number of columns of an array; 1 without a COLROW
abbrev pub columns_in : Option Rec → ℕ
columns_in None = 1
columns_in (Some r) = magnitude (columns r.payload)

-- the number of rows of an array; 1 without a COLROW
abbrev pub rows_in : Option Rec → ℕ
rows_in None = 1
rows_in (Some r) = magnitude (rows r.payload)

-- the shifts of an array
abbrev pub shifts_of : List Rec → List Point
shifts_of piece =
    array_shifts (points (field xy piece)) (columns_in (last_of colrow piece)) (rows_in (last_of colrow piece))

-- the shapes of an element that opens with this type
abbrev pub shapes_by : Option ℕ → List Rec → List (PlainShape Figure)
shapes_by None piece = []
shapes_by (Some k) piece =
    if k == boundary then boundary_shape piece ∷ [] else (if k == path then path_shape piece ∷ [] else [])

-- the references of an element that opens with this type
abbrev pub references_by : Option ℕ → List Rec → List PlainReference
references_by None piece = []
references_by (Some k) piece =
    if k == sref then reference piece one_place ∷ [] else (if k == aref then reference piece (shifts_of piece) ∷ []
    else [])

-- the shapes of an element, by the type of its first record: a boundary or a path has one, the others have none
abbrev pub shapes_of : List Rec → List (PlainShape Figure)
shapes_of piece = shapes_by (opener piece) piece

-- the references of an element, by the type of its first record: a reference or an array has one, the others have none
abbrev pub references_of : List Rec → List PlainReference
references_of piece = references_by (opener piece) piece

-- the same shape, with its figure as rings
abbrev pub in_rings : PlainShape Figure → PlainShape Rings
in_rings s = record { layer = s.layer; figure = figure_rings s.figure; shifts = s.shifts }
