-- Modal variables (SEMI P39 OASIS 1.0, "Modal variables"). Lists of records are the records of a cell after its CELL,
-- the latest first.
use Rattle.std.specs.Prelude.{ℕ, ℤ, pos, ◌+ℤ◌, Bool, true, false, if◌then◌else◌, List, [], ◌∷◌, Option, Some, None}
use Rattle.std.specs.Prelude.{option_map, unwrap_or}
use Rattle.std.specs.Option.{option_or, option_and_then}
use Rattle.lvl_grid.specs.declared.point.Point.{Point}
use Rattle.oasis_values.specs.declared.repetition.Repetition.{Repetition}
use Rattle.oasis_values.specs.declared.repetition.Repetition.TheVariants.{Modal as Same, New}
use Rattle.oasis_records.specs.declared.cell.CellRef.{CellRef}
use Rattle.oasis_records.specs.declared.path.Extension.{Extension}
use Rattle.oasis_records.specs.declared.path.Extension.TheVariants.{Modal as AsBefore, Flush, HalfWidth, Explicit}
use Rattle.oasis_records.specs.declared.record.Record.{Record}
use Rattle.oasis_records.specs.declared.record.Record.TheVariants.{Placement, Rectangle, Polygon, Path}
use Rattle.oasis_records.specs.declared.record.Record.TheVariants.{Text, XyAbsolute, XyRelative}

-- the value of a variable: that of the latest record which set it, or None. `f earlier r` is what the record r sets it
-- to after the records `earlier`; a field that is in a record sets its variable
abbrev pub modal : {A : Type 0} → (List Record → Record → Option A) → List Record → Option A
modal f [] = None
modal f (r ∷ earlier) = option_or (f earlier r) (modal f earlier)

-- placement-cell
abbrev pub cell_set : List Record → Record → Option CellRef
cell_set earlier (Placement p) = p.cell
cell_set earlier r = None

-- layer
abbrev pub layer_set : List Record → Record → Option ℕ
layer_set earlier (Rectangle r) = r.on.layer
layer_set earlier (Polygon p) = p.on.layer
layer_set earlier (Path p) = p.on.layer
layer_set earlier r = None

-- datatype
abbrev pub datatype_set : List Record → Record → Option ℕ
datatype_set earlier (Rectangle r) = r.on.datatype
datatype_set earlier (Polygon p) = p.on.datatype
datatype_set earlier (Path p) = p.on.datatype
datatype_set earlier r = None

-- geometry-w
abbrev pub width_set : List Record → Record → Option ℕ
width_set earlier (Rectangle r) = r.width
width_set earlier r = None

-- geometry-h; a square's height is its width (own rule: it sets the variable too)
abbrev pub height_set : List Record → Record → Option ℕ
height_set earlier (Rectangle r) = if r.is_square then modal width_set (Rectangle r ∷ earlier) else r.height
height_set earlier r = None

-- polygon-point-list
abbrev pub polygon_set : List Record → Record → Option (List Point)
polygon_set earlier (Polygon p) = p.points
polygon_set earlier r = None

-- path-halfwidth
abbrev pub half_width_set : List Record → Record → Option ℕ
half_width_set earlier (Path p) = p.half_width
half_width_set earlier r = None

-- path-point-list
abbrev pub path_set : List Record → Record → Option (List Point)
path_set earlier (Path p) = p.points
path_set earlier r = None

-- the extension as a number; None if it is modal, or if it is half of an unknown width
abbrev pub extended : Option ℕ → Extension → Option ℤ
extended half AsBefore = None
extended half Flush = Some (pos 0)
extended half HalfWidth = option_map pos half
extended half (Explicit z) = Some z

-- path-start-extension, which may be half of the width after the record
abbrev pub start_set : List Record → Record → Option ℤ
start_set earlier (Path p) = option_and_then (λ e. extended (modal half_width_set (Path p ∷ earlier)) e.start) p.ends
start_set earlier r = None

-- path-end-extension, likewise
abbrev pub end_set : List Record → Record → Option ℤ
end_set earlier (Path p) = option_and_then (λ e. extended (modal half_width_set (Path p ∷ earlier)) e.end) p.ends
end_set earlier r = None

-- the repetition of a record
abbrev pub repetition_of : Record → Option Repetition
repetition_of (Placement p) = p.position.repetition
repetition_of (Rectangle r) = r.position.repetition
repetition_of (Polygon p) = p.position.repetition
repetition_of (Path p) = p.position.repetition
repetition_of (Text r) = r
repetition_of r = None

-- the shifts of a repetition; type 0 has none of its own
abbrev pub listed : Option Repetition → Option (List Point)
listed (Some (New shifts)) = Some shifts
listed (Some Same) = None
listed None = None

-- repetition: a record that has a repetition of its own sets it
abbrev pub repetition_set : List Record → Record → Option (List Point)
repetition_set earlier r = listed (repetition_of r)

-- xy-mode, as whether it is relative: XYRELATIVE and XYABSOLUTE set it
abbrev pub mode_set : List Record → Record → Option Bool
mode_set earlier XyAbsolute = Some false
mode_set earlier XyRelative = Some true
mode_set earlier r = None

-- whether the mode is relative; it is absolute at the beginning of a cell
abbrev pub is_relative : List Record → Bool
is_relative records = unwrap_or (modal mode_set records) false

-- the coordinate after a record: if the record has one, it replaces the one before in absolute mode, and is added to it
-- in relative mode
abbrev pub stepped : Option ℤ → Bool → ℤ → ℤ
stepped None relative before = before
stepped (Some z) true before = before +ℤ z
stepped (Some z) false before = z

-- the latest coordinate given in absolute mode, or 0, and those given in relative mode since then added to it
abbrev pub coordinate : (Record → Option ℤ) → List Record → ℤ
coordinate given [] = pos 0
coordinate given (r ∷ earlier) = stepped (given r) (is_relative earlier) (coordinate given earlier)

-- the x in the record of a figure
abbrev pub geometry_x : Record → Option ℤ
geometry_x (Rectangle r) = r.position.x
geometry_x (Polygon p) = p.position.x
geometry_x (Path p) = p.position.x
geometry_x r = None

-- the y in the record of a figure
abbrev pub geometry_y : Record → Option ℤ
geometry_y (Rectangle r) = r.position.y
geometry_y (Polygon p) = p.position.y
geometry_y (Path p) = p.position.y
geometry_y r = None

-- the x in the record of a placement
abbrev pub placement_x : Record → Option ℤ
placement_x (Placement p) = p.position.x
placement_x r = None

-- the y in the record of a placement
abbrev pub placement_y : Record → Option ℤ
placement_y (Placement p) = p.position.y
placement_y r = None

-- geometry-x and geometry-y: the position of the latest figure
abbrev pub geometry : List Record → Point
geometry records = record { x = coordinate geometry_x records; y = coordinate geometry_y records }

-- placement-x and placement-y: the position of the latest placement
abbrev pub placement : List Record → Point
placement records = record { x = coordinate placement_x records; y = coordinate placement_y records }

-- the position after a record with these coordinates
abbrev pub moved : Point → Option ℤ → Option ℤ → Bool → Point
moved before x y relative = record { x = stepped x relative before.x; y = stepped y relative before.y }
