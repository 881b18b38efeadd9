-- The rules that a record of a cell may breach (SEMI P39 OASIS 1.0, "Modal variables"; all but Undefined are own
-- rules). `earlier` are the records of the cell before it, the latest first.
use Rattle.std.specs.Prelude.{◌≡◌, ℕ, ◌<◌, ◌^◌, ◌||◌, ℤ, negsuc, Bool, true, false, is_some, if◌then◌else◌, List, []}
use Rattle.std.specs.Prelude.{◌∷◌, Option, Some, None, All}
use Rattle.lvl_grid.specs.Turn.{FitsPoint, shifted}
use Rattle.lvl_grid.specs.Winding.{IsRing}
use Rattle.lvl_path.specs.Repeats.{asked}
use Rattle.lvl_path.specs.Runs.{IsLowestFault}
use Rattle.lvl_path.specs.declared.fault.PathFault.{PathFault}
use Rattle.lvl_profile.specs.declared.ignore.Ignore.{Ignore}
use Rattle.oasis_values.specs.declared.repetition.Repetition.{Repetition}
use Rattle.oasis_records.specs.declared.record.Record.{Record}
use Rattle.oasis_records.specs.declared.record.Record.TheVariants.{Placement, Rectangle, Polygon, Path, Text}
use Rattle.oasis_figures.specs.Figures.{number, rectangle_ring, polygon_ring, path_points, half_of, start_of, end_of}
use Rattle.oasis_figures.specs.Figures.{shifts_of, turn_of, is_magnified}
use Rattle.oasis_figures.specs.Modal.{geometry, placement}
use Rattle.oasis_figures.specs.Modal.{modal, cell_set, layer_set, datatype_set, width_set, height_set, polygon_set}
use Rattle.oasis_figures.specs.Modal.{half_width_set, path_set, start_set, end_set, repetition_set}
use Rattle.oasis_figures.specs.declared.rule.FigureRule.{FigureRule}
use Rattle.oasis_figures.specs.declared.rule.FigureRule.TheVariants.{Undefined, Layer as WideLayer, OutOfRange}
use Rattle.oasis_figures.specs.declared.rule.FigureRule.TheVariants.{Magnification, Angle}
use Rattle.oasis_figures.specs.declared.rule.FigureRule.TheVariants.{Extension, Oblique, Path as PathRule}
use Rattle.oasis_figures.specs.declared.variable.Variable.{Variable}
use Rattle.oasis_figures.specs.declared.variable.Variable.TheVariants.{PlacementCell, Layer, Datatype, GeometryW}
use Rattle.oasis_figures.specs.declared.variable.Variable.TheVariants.{GeometryH}
use Rattle.oasis_figures.specs.declared.variable.Variable.TheVariants.{PolygonPointList, PathHalfWidth, PathPointList}
use Rattle.oasis_figures.specs.declared.variable.Variable.TheVariants.{PathStartExtension, PathEndExtension}
use Rattle.oasis_figures.specs.declared.variable.Variable.TheVariants.{Repetition as TheRepetition}

-- whether the variable has a value
abbrev pub is_defined : List Record → Variable → Bool
is_defined records PlacementCell = is_some (modal cell_set records)
is_defined records Layer = is_some (modal layer_set records)
is_defined records Datatype = is_some (modal datatype_set records)
is_defined records GeometryW = is_some (modal width_set records)
is_defined records GeometryH = is_some (modal height_set records)
is_defined records PolygonPointList = is_some (modal polygon_set records)
is_defined records PathHalfWidth = is_some (modal half_width_set records)
is_defined records PathPointList = is_some (modal path_set records)
is_defined records PathStartExtension = is_some (modal start_set records)
is_defined records PathEndExtension = is_some (modal end_set records)
is_defined records TheRepetition = is_some (modal repetition_set records)

-- the variable whose value a repetition needs
abbrev pub of_repetition : Option Repetition → List Variable
of_repetition None = []
of_repetition (Some r) = TheRepetition ∷ []

-- the variables whose values a record needs, in the order of its fields
abbrev pub taken : Record → List Variable
taken (Rectangle r) = Layer ∷ Datatype ∷ GeometryW ∷ GeometryH ∷ of_repetition r.position.repetition
taken (Placement p) = PlacementCell ∷ of_repetition p.position.repetition
taken (Polygon p) = Layer ∷ Datatype ∷ PolygonPointList ∷ of_repetition p.position.repetition
taken (Path p) =
    Layer ∷ Datatype ∷ PathHalfWidth ∷ PathStartExtension ∷ PathEndExtension ∷ PathPointList
    ∷ of_repetition p.position.repetition
taken (Text r) = of_repetition r
taken r = []

-- the first of the variables that has no value
abbrev pub first_undefined : (Variable → Bool) → List Variable → Option Variable
first_undefined defined [] = None
first_undefined defined (v ∷ vs) = if defined v then first_undefined defined vs else Some v

-- the layer and the datatype are below 2^32 (own rule)
abbrev pub AreNarrow : ℕ → ℕ → Type 0
AreNarrow layer datatype = (layer < 2 ^ 32) × (datatype < 2 ^ 32)

-- the layer or the datatype is 2^32 or more (own rule)
abbrev pub IsWide : List Record → Type 0
IsWide records = ¬ AreNarrow (number (modal layer_set records)) (number (modal datatype_set records))

-- a figure has a layer or a datatype of 2^32 or more
abbrev pub HasWideLayer : List Record → Record → Type 0
HasWideLayer earlier (Rectangle r) = IsWide (Rectangle r ∷ earlier)
HasWideLayer earlier (Polygon p) = IsWide (Polygon p ∷ earlier)
HasWideLayer earlier (Path p) = IsWide (Path p ∷ earlier)
HasWideLayer earlier r = ⊥

-- a position, a vertex at the zero shift, or a place of a cell doesn't fit in 64 signed bits (own rule)
abbrev pub LeavesRange : List Record → Record → Type 0
LeavesRange earlier (Rectangle r) = ¬ All FitsPoint (rectangle_ring (Rectangle r ∷ earlier))
LeavesRange earlier (Polygon p) =
    ¬ (FitsPoint (geometry (Polygon p ∷ earlier)) × All FitsPoint (polygon_ring (Polygon p ∷ earlier)))
LeavesRange earlier (Path p) =
    ¬ (FitsPoint (geometry (Path p ∷ earlier)) × All FitsPoint (path_points (Path p ∷ earlier)))
LeavesRange earlier (Placement p) =
    ¬ (FitsPoint (placement (Placement p ∷ earlier))
    × All (λ e. FitsPoint (shifted (placement (Placement p ∷ earlier)) e)) (shifts_of earlier (Placement p)))
LeavesRange earlier r = ⊥

-- a placement has a magnification that isn't 1 as a real of type 0, 2 or 4 (own rule)
abbrev pub IsMagnified : Record → Type 0
IsMagnified (Placement p) = is_magnified p.transform ≡ true
IsMagnified r = ⊥

-- a placement has an angle that isn't 0, 90, 180 or 270 as a real of type 0, 2 or 4 (own rule)
abbrev pub IsTurnedOtherwise : Record → Type 0
IsTurnedOtherwise (Placement p) = turn_of p.transform ≡ None
IsTurnedOtherwise r = ⊥

-- whether the extension is negative
abbrev pub is_negative : Option ℤ → Bool
is_negative (Some (negsuc n)) = true
is_negative z = false

-- a path has a negative extension (own rule)
abbrev pub HasNegativeEnd : List Record → Record → Type 0
HasNegativeEnd earlier (Path p) =
    is_negative (modal start_set (Path p ∷ earlier)) || is_negative (modal end_set (Path p ∷ earlier)) ≡ true
HasNegativeEnd earlier r = ⊥

-- the polygon isn't a ring: one of its edges, or the closing one, is oblique (own rule); its points are always at least
-- three
abbrev pub HasObliqueEdge : List Record → Record → Type 0
HasObliqueEdge earlier (Polygon p) = ¬ IsRing (polygon_ring (Polygon p ∷ earlier))
HasObliqueEdge earlier r = ⊥

-- the latest path breaches this rule of paths, and none with a lower number, without the points that are ignored (own
-- rule)
abbrev pub IsPathFault : Ignore → List Record → PathFault → Type 0
IsPathFault ignore records f =
    IsLowestFault (asked ignore.points (path_points records))
    (record { half = half_of records; start = start_of records; end = end_of records }) f

-- the record is a path that breaches this rule, and none with a lower number
abbrev pub HasPathFault : Ignore → List Record → Record → PathFault → Type 0
HasPathFault ignore earlier (Path p) f = IsPathFault ignore (Path p ∷ earlier) f
HasPathFault ignore earlier r f = ⊥

-- the record breaks the rule, whichever others it breaks
abbrev pub Breaks : Ignore → List Record → Record → FigureRule → Type 0
Breaks ignore earlier r (Undefined v) = first_undefined (is_defined (r ∷ earlier)) (taken r) ≡ Some v
Breaks ignore earlier r WideLayer = HasWideLayer earlier r
Breaks ignore earlier r OutOfRange = LeavesRange earlier r
Breaks ignore earlier r Magnification = IsMagnified r
Breaks ignore earlier r Angle = IsTurnedOtherwise r
Breaks ignore earlier r Extension = HasNegativeEnd earlier r
Breaks ignore earlier r Oblique = HasObliqueEdge earlier r
Breaks ignore earlier r (PathRule f) = HasPathFault ignore earlier r f

-- the order in which the rules are tested
abbrev pub order : FigureRule → ℕ
order (Undefined v) = 0
order WideLayer = 1
order OutOfRange = 2
order Magnification = 3
order Angle = 4
order Extension = 5
order Oblique = 6
order (PathRule f) = 7

-- the rule is the first, in the order of tests, that the record breaks
pub record Breaches (ignore : Ignore) (earlier : List Record) (r : Record) (rule : FigureRule) : Type 0 where
  pub broken : Breaks ignore earlier r rule
  pub first : (other : FigureRule) → order other < order rule → ¬ Breaks ignore earlier r other

-- the record breaks none of the rules
abbrev pub BreachesNone : Ignore → List Record → Record → Type 0
BreachesNone ignore earlier r = (rule : FigureRule) → ¬ Breaks ignore earlier r rule
