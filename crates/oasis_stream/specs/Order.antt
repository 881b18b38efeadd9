-- Which records may come after others, by their ids only (SEMI P39 OASIS 1.0, "Records", "START record", "CELLNAME
-- record", "CELL record", "CBLOCK record"). `inside` says whether they come inside a block.
use Rattle.std.specs.Prelude.{ℕ, Bool, true, false, not, ◌&&◌, ◌||◌, nat_lt, is_some, is_none, if◌then◌else◌}
use Rattle.std.specs.Prelude.{List, [], ◌∷◌, length, flat_map, Result, Ok, Err}
use Rattle.lvl_profile.specs.declared.limits.Limits.{Limits}
use Rattle.lvl_profile.specs.declared.profile.Profile.{Profile}
use Rattle.oasis_records.specs.Records.{record_type}
use Rattle.oasis_records.specs.declared.cell.CellName.{CellName}
use Rattle.oasis_records.specs.declared.cell.CellRef.{CellRef}
use Rattle.oasis_records.specs.declared.fault.RecordRule.{RecordRule}
use Rattle.oasis_records.specs.declared.record.Record.{Record}
use Rattle.oasis_records.specs.declared.record.Record.TheVariants.{Start as OfStart, CellName as OfCellName}
use Rattle.oasis_records.specs.declared.record.Record.TheVariants.{Cell as OfCell, Entry as OfEntry}
use Rattle.oasis_records.specs.declared.record_type.RecordType.{RecordType}
use Rattle.oasis_records.specs.declared.record_type.RecordType.TheVariants.{Start, CellName as AName, NumberedCellName}
use Rattle.oasis_records.specs.declared.record_type.RecordType.TheVariants.{NumberedCell, NamedCell, XyAbsolute}
use Rattle.oasis_records.specs.declared.record_type.RecordType.TheVariants.{XyRelative}
use Rattle.oasis_records.specs.declared.record_type.RecordType.TheVariants.{Placement, ScaledPlacement, Rectangle}
use Rattle.oasis_records.specs.declared.record_type.RecordType.TheVariants.{Polygon, Path, Text, End, Block}
use Rattle.oasis_stream.specs.declared.fault.NameRule.TheVariants.{Mixed}
use Rattle.oasis_stream.specs.declared.fault.OasisKind.{OasisKind}
use Rattle.oasis_stream.specs.declared.fault.OasisKind.TheVariants.{Record as OfRecord, Unexpected, Name, TooManyCells}

-- the last element of the list; d if it is empty
abbrev pub last_or : {A : Type 0} → A → List A → A
last_or d [] = d
last_or d (x ∷ xs) = last_or x xs

-- whether a cell is open after the record, if the record changes this: CELL opens one, and records that give names or
-- strings by number end it
abbrev pub opens : Record → List Bool
opens (OfCell c) = true ∷ []
opens (OfCellName n) = false ∷ []
opens OfEntry = false ∷ []
opens r = []

-- whether a cell is open after the records
abbrev pub in_cell : List Record → Bool
in_cell rs = last_or false (flat_map opens rs)

-- what START says of the offsets of tables: whether END has them
abbrev pub flags : Record → List Bool
flags (OfStart s) = s.has_offsets_at_end ∷ []
flags r = []

-- whether END has the offsets of tables, by the records before it
abbrev pub at_end : List Record → Bool
at_end rs = last_or false (flat_map flags rs)

-- the name in a CELLNAME record
abbrev pub name_in : Record → List CellName
name_in (OfCellName c) = c ∷ []
name_in r = []

-- the names in CELLNAME records, in their order
abbrev pub names_in : List Record → List CellName
names_in rs = flat_map name_in rs

-- the cell in a CELL record
abbrev pub cell_in : Record → List CellRef
cell_in (OfCell c) = c ∷ []
cell_in r = []

-- the cells in CELL records, in their order
abbrev pub cells_in : List Record → List CellRef
cells_in rs = flat_map cell_in rs

-- whether some name has a number of its own
abbrev pub any_numbered : List CellName → Bool
any_numbered [] = false
any_numbered (c ∷ cs) = is_some c.number || any_numbered cs

-- whether some name has no number of its own
abbrev pub any_unnumbered : List CellName → Bool
any_unnumbered [] = false
any_unnumbered (c ∷ cs) = is_none c.number || any_unnumbered cs

-- whether the type is that of START
abbrev pub is_start : Result RecordType RecordRule → Bool
is_start (Ok Start) = true
is_start t = false

-- the types of records that belong in a cell
abbrev pub is_inner : Result RecordType RecordRule → Bool
is_inner (Ok XyAbsolute) = true
is_inner (Ok XyRelative) = true
is_inner (Ok Placement) = true
is_inner (Ok ScaledPlacement) = true
is_inner (Ok Rectangle) = true
is_inner (Ok Polygon) = true
is_inner (Ok Path) = true
is_inner (Ok Text) = true
is_inner t = false

-- a file begins with START and has no other; what belongs in a cell comes only while one is open
abbrev pub is_expected : List Record → Result RecordType RecordRule → Bool
is_expected [] t = is_start t
is_expected (r ∷ rs) t = not (is_start t) && (not (is_inner t) || in_cell (r ∷ rs))

-- whether the type is one that no block has inside: that of START, END or another block
abbrev pub is_outer : Result RecordType RecordRule → Bool
is_outer (Ok Start) = true
is_outer (Ok End) = true
is_outer (Ok Block) = true
is_outer t = false

-- whether the type may come, inside a block or not
abbrev pub is_expected_in : Bool → List Record → Result RecordType RecordRule → Bool
is_expected_in inside rs t = not (inside && is_outer t) && is_expected rs t

-- whether the type would give names both with and without numbers of their own
abbrev pub mixes : List Record → RecordType → Bool
mixes rs AName = any_numbered (names_in rs)
mixes rs NumberedCellName = any_unnumbered (names_in rs)
mixes rs t = false

-- whether records of the type open a cell
abbrev pub opens_cell : RecordType → Bool
opens_cell NumberedCell = true
opens_cell NamedCell = true
opens_cell t = false

-- the type, if the records before it allow it, within the limits
abbrev pub allowed : Limits → List Record → Result RecordType RecordRule → Result RecordType OasisKind
allowed limits rs (Err k) = Err (OfRecord k)
allowed limits rs (Ok t) =
    if mixes rs t then Err (Name Mixed)
    else (if opens_cell t && not (nat_lt (length (cells_in rs)) limits.cells) then Err TooManyCells else Ok t)

-- the type by an id after the records rs, within the limits, or the rule that the id breaches
abbrev pub type_by : Bool → Limits → List Record → ℕ → Result RecordType RecordRule → Result RecordType OasisKind
type_by inside limits rs id t = if is_expected_in inside rs t then allowed limits rs t else Err (Unexpected id)

-- the type by an id after the records rs, under the profile, or the rule that the id breaches
abbrev pub type_after : Bool → Profile → List Record → ℕ → Result RecordType OasisKind
type_after inside profile rs id = type_by inside profile.limits rs id (record_type profile id)
