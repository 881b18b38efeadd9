-- The rules that a record of an element may breach. Own rules: Layer, Strans, Magnification, Angle, ArrayStep, Name,
-- Path, Width, PathType, Oblique and Repetition; the others are of GDSII Stream Format Manual, Release 6, BOUNDARY,
-- PATH, SREF, AREF and COLROW.
use Rattle.std.specs.Prelude.{true, ◌≡◌, ◌≢◌, ℕ, ◌*◌, ◌<◌, ◌≤◌, ◌<ℤ◌, ◌≤ℤ◌, ◌-ℤ◌, ◌⊎◌, ℤ, pos, List, [], ◌∷◌, ◌++◌}
use Rattle.std.specs.Prelude.{length, Some, None, All, is_some}
use Rattle.std.specs.Int.RustNames.{int_rem}
use Rattle.gds_records.specs.Table.{table, form_among}
use Rattle.lvl_grid.specs.Winding.{IsStraight, path_edges, last_or}
use Rattle.lvl_grid.specs.declared.point.Point.{Point}
use Rattle.lvl_grid.specs.declared.map.Turn.{Turn}
use Rattle.lvl_path.specs.Repeats.{asked}
use Rattle.lvl_path.specs.Runs.{IsLowestFault}
use Rattle.lvl_names.specs.Names.{IsName}
use Rattle.gds_elements.specs.Types.{boundary, path, sref, aref, text, layer, datatype, width, xy, sname, colrow}
use Rattle.gds_elements.specs.Types.{strans, mag, angle, pathtype}
use Rattle.lvl_grammar.specs.Order.{Begins}
use Rattle.gds_elements.specs.Order.{an_element}
use Rattle.gds_elements.specs.Rec.{Rec, kinds, opener, last_of}
use Rattle.gds_elements.specs.Values.{short, long, bits, points, nth, name, magnitude, one_real, degrees, columns, rows}
use Rattle.gds_elements.specs.Meaning.{half_of, end_of, columns_in, rows_in}
use Rattle.gds_elements.specs.declared.fault.Misplaced.{Misplaced}
use Rattle.gds_elements.specs.declared.fault.Misplaced.TheVariants.{Unexpected, Unsupported}
use Rattle.gds_elements.specs.declared.fault.ElementFault.{ElementFault}
use Rattle.gds_elements.specs.declared.fault.ElementFault.TheVariants.{Misplaced as MisplacedRecord, Rule}
use Rattle.gds_elements.specs.declared.fault.ElementRule.{ElementRule}
use Rattle.gds_elements.specs.declared.fault.ElementRule.TheVariants.{Layer, Points, NotClosed, Strans, Magnification}
use Rattle.gds_elements.specs.declared.fault.ElementRule.TheVariants.{Angle, ColRow, ArrayStep, Name, Path, Width}
use Rattle.gds_elements.specs.declared.fault.ElementRule.TheVariants.{PathType, Oblique, Repetition}
use Rattle.lvl_profile.specs.declared.profile.Profile.{Profile}

-- the type is one of those that are always read
abbrev pub IsKnown : ℕ → Type 0
IsKnown k = is_some (form_among table k) ≡ true

-- each point with the next
abbrev pub steps : List Point → List (Point × Point)
steps [] = []
steps (p ∷ ps) = path_edges p ps

-- the last point is the first
abbrev pub IsClosed : List Point → Type 0
IsClosed [] = Unit {0}
IsClosed (p ∷ ps) = last_or p ps ≡ p

-- a width is positive and even (own rule)
abbrev pub IsWidth : ℤ → Type 0
IsWidth z = (h : ℕ) × (0 < h) × (z ≡ pos (2 * h))

-- n divides both coordinates of the distance from p to q
abbrev pub IsDivided : Point → Point → ℕ → Type 0
IsDivided p q n = (int_rem (q.x -ℤ p.x) (pos n) ≡ pos 0) × (int_rem (q.y -ℤ p.y) (pos n) ≡ pos 0)

-- m columns and n rows divide the points of an array into whole steps
abbrev pub HasSteps : List Point → ℕ → ℕ → Type 0
HasSteps ps m n = IsDivided (nth ps 0) (nth ps 1) m × IsDivided (nth ps 0) (nth ps 2) n

-- the element draws a shape: it is a boundary or a path
abbrev pub DrawsShape : List Rec → Type 0
DrawsShape piece = (opener piece ≡ Some boundary) ⊎ (opener piece ≡ Some path)

-- the element refers to a cell: it is a reference or an array
abbrev pub RefersToCell : List Rec → Type 0
RefersToCell piece = (opener piece ≡ Some sref) ⊎ (opener piece ≡ Some aref)

-- the number of points is wrong: under four in a boundary, under two in a path, not three in an array, not one in a
-- reference or a text
abbrev pub IsMiscounted : List Rec → ℕ → Type 0
IsMiscounted piece n =
    ((opener piece ≡ Some boundary) × (n < 4)) ⊎ ((opener piece ≡ Some path) × (n < 2))
    ⊎ ((opener piece ≡ Some aref) × (n ≢ 3))
    ⊎ (((opener piece ≡ Some sref) ⊎ (opener piece ≡ Some text)) × (n ≢ 1))

-- the record r breaches the rule by its payload, if `piece` are the records of its element so far
abbrev pub ValueBreaches : Profile → List Rec → Rec → ElementRule → Type 0
ValueBreaches profile piece r Layer =
    ((r.kind ≡ layer) ⊎ (r.kind ≡ datatype)) × DrawsShape piece × (short r.payload <ℤ pos 0)
ValueBreaches profile piece r Points = (r.kind ≡ xy) × IsMiscounted piece (length (points r.payload))
ValueBreaches profile piece r NotClosed =
    (r.kind ≡ xy) × (opener piece ≡ Some boundary) × (4 ≤ length (points r.payload)) × ¬ IsClosed (points r.payload)
ValueBreaches profile piece r Strans =
    (r.kind ≡ strans) × RefersToCell piece × (bits r.payload ≢ 0) × (bits r.payload ≢ 0x8000)
ValueBreaches profile piece r Magnification =
    (r.kind ≡ mag) × RefersToCell piece × (r.payload ≢ one_real)
ValueBreaches profile piece r Angle = (r.kind ≡ angle) × RefersToCell piece × ((t : Turn) → r.payload ≢ degrees t)
ValueBreaches profile piece r ColRow =
    (r.kind ≡ colrow) × (opener piece ≡ Some aref) × ((columns r.payload <ℤ pos 1) ⊎ (rows r.payload <ℤ pos 1))
ValueBreaches profile piece r ArrayStep =
    (r.kind ≡ xy) × (opener piece ≡ Some aref) × (length (points r.payload) ≡ 3)
    × ¬ HasSteps (points r.payload) (columns_in (last_of colrow piece)) (rows_in (last_of colrow piece))
ValueBreaches profile piece r Name = (r.kind ≡ sname) × RefersToCell piece × ¬ IsName (name r.payload)
ValueBreaches profile piece r (Path f) =
    (r.kind ≡ xy) × (opener piece ≡ Some path) × (2 ≤ length (points r.payload)) × (last_of width piece ≢ None)
    × IsLowestFault (asked profile.ignore.points (points r.payload))
    (record { half = half_of piece; start = end_of piece; end = end_of piece }) f
ValueBreaches profile piece r Width =
    (opener piece ≡ Some path)
    × (((r.kind ≡ width) × ¬ IsWidth (long r.payload)) ⊎ ((r.kind ≡ xy) × (2 ≤ length (points r.payload))
    × (last_of width piece ≡ None)))
ValueBreaches profile piece r PathType =
    (r.kind ≡ pathtype) × (opener piece ≡ Some path) × (short r.payload ≢ pos 0) × (short r.payload ≢ pos 2)
ValueBreaches profile piece r Oblique =
    (r.kind ≡ xy) × (opener piece ≡ Some boundary) × (4 ≤ length (points r.payload)) × IsClosed (points r.payload)
    × ¬ All IsStraight (steps (points r.payload))
ValueBreaches profile piece r Repetition =
    (r.kind ≡ colrow) × (opener piece ≡ Some aref) × (pos 1 ≤ℤ columns r.payload) × (pos 1 ≤ℤ rows r.payload)
    × (profile.limits.array < magnitude (columns r.payload) * magnitude (rows r.payload))

-- the record may come next in the element
abbrev pub InOrder : List Rec → Rec → Type 0
InOrder piece r = Begins an_element (kinds (piece ++ r ∷ []))

-- the record may not come next: its type is one that is always read (Unexpected), or it isn't (Unsupported)
abbrev pub IsMisplacedAs : Type 0 → Rec → Misplaced → Type 0
IsMisplacedAs ordered r (Unexpected k) = (r.kind ≡ k) × IsKnown k × ¬ ordered
IsMisplacedAs ordered r (Unsupported k) = (r.kind ≡ k) × (k < 60) × ¬ IsKnown k

-- the record may not come next, or its payload breaches a rule
abbrev pub ElementBreaches : Profile → List Rec → Rec → ElementFault → Type 0
ElementBreaches profile piece r (MisplacedRecord m) = IsMisplacedAs (InOrder piece r) r m
ElementBreaches profile piece r (Rule k) = InOrder piece r × ValueBreaches profile piece r k

-- it breaches no other rule
abbrev pub BreachesOnly : Profile → List Rec → Rec → ElementFault → Type 0
BreachesOnly profile piece r f = (g : ElementFault) → ElementBreaches profile piece r g → g ≡ f

-- it breaches no rule
abbrev pub BreachesNone : Profile → List Rec → Rec → Type 0
BreachesNone profile piece r = (f : ElementFault) → ElementBreaches profile piece r f → ⊥
