-- Records by their ids (SEMI P39 OASIS 1.0, "Records"). Own rule: records of other ids aren't read.
use Rattle.std.specs.Prelude.{ℕ, ◌==◌, if◌then◌else◌, Bool, true, false, List, [], ◌∷◌, Result, Ok, Err}
use Rattle.lvl_profile.specs.declared.profile.Profile.{Profile}
use Rattle.oasis_values.specs.Known.{Seen}
use Rattle.oasis_values.specs.Numbers.{IsUnsigned}
use Rattle.oasis_values.specs.Spelling.{Spelling, Gives, Then}
use Rattle.oasis_values.specs.declared.fault.ValueFault.{ValueFault}
use Rattle.oasis_values.specs.declared.text.Text.TheVariants.{A, B, N}
use Rattle.oasis_records.specs.Blocks.{IsBlock}
use Rattle.oasis_records.specs.Cells.{IsCell, IsCellName, IsNumberedName}
use Rattle.oasis_records.specs.Ends.{IsEnd}
use Rattle.oasis_records.specs.Labels.{IsLabel}
use Rattle.oasis_records.specs.Names.{IsEntry}
use Rattle.oasis_records.specs.Paths.{IsPath}
use Rattle.oasis_records.specs.Placements.{IsTurned, IsScaled}
use Rattle.oasis_records.specs.Polygons.{IsPolygon}
use Rattle.oasis_records.specs.Properties.{IsProperty}
use Rattle.oasis_records.specs.Rectangles.{IsRectangle}
use Rattle.oasis_records.specs.Rules.{AndThen}
use Rattle.oasis_records.specs.Sizes.{Sized}
use Rattle.oasis_records.specs.Starts.{IsStart}
use Rattle.oasis_records.specs.declared.fault.RecordRule.{RecordRule}
use Rattle.oasis_records.specs.declared.fault.RecordRule.TheVariants.{Unsupported}
use Rattle.oasis_records.specs.declared.names.EntryType.TheVariants.{String, NumberedString, LayerName, XName}
use Rattle.oasis_records.specs.declared.names.EntryType.TheVariants.{NumberedXName}
use Rattle.oasis_records.specs.declared.record.Record.{Record}
use Rattle.oasis_records.specs.declared.record.Record.TheVariants.{Pad, Property, XyAbsolute, XyRelative}
use Rattle.oasis_records.specs.declared.record_type.RecordType.{RecordType}
use Rattle.oasis_records.specs.declared.record_type.RecordType.TheVariants.{Pad as OfPad, Start as OfStart}
use Rattle.oasis_records.specs.declared.record_type.RecordType.TheVariants.{End as OfEnd, CellName as OfCellName}
use Rattle.oasis_records.specs.declared.record_type.RecordType.TheVariants.{NumberedCellName as OfNumberedCellName}
use Rattle.oasis_records.specs.declared.record_type.RecordType.TheVariants.{NumberedCell as OfNumberedCell}
use Rattle.oasis_records.specs.declared.record_type.RecordType.TheVariants.{NamedCell as OfNamedCell}
use Rattle.oasis_records.specs.declared.record_type.RecordType.TheVariants.{Entry as OfEntry}
use Rattle.oasis_records.specs.declared.record_type.RecordType.TheVariants.{Text as OfText, Property as OfProperty}
use Rattle.oasis_records.specs.declared.record_type.RecordType.TheVariants.{LastProperty as OfLastProperty}
use Rattle.oasis_records.specs.declared.record_type.RecordType.TheVariants.{XyAbsolute as OfXyAbsolute}
use Rattle.oasis_records.specs.declared.record_type.RecordType.TheVariants.{XyRelative as OfXyRelative}
use Rattle.oasis_records.specs.declared.record_type.RecordType.TheVariants.{Placement as OfPlacement}
use Rattle.oasis_records.specs.declared.record_type.RecordType.TheVariants.{ScaledPlacement as OfScaledPlacement}
use Rattle.oasis_records.specs.declared.record_type.RecordType.TheVariants.{Rectangle as OfRectangle}
use Rattle.oasis_records.specs.declared.record_type.RecordType.TheVariants.{Polygon as OfPolygon, Path as OfPath}
use Rattle.oasis_records.specs.declared.record_type.RecordType.TheVariants.{Block as OfBlock}

-- a type of records: its id, and whether it is read, by what is ignored
pub record Row : Type 0 where
  pub id : ℕ
  pub is_read : Profile → Bool
  pub kind : RecordType

-- a row of the table
abbrev pub row : ℕ → (Profile → Bool) → RecordType → Row
row id is_read kind = record { id = id; is_read = is_read; kind = kind }

-- a type is always read
abbrev pub always : Profile → Bool
always profile = true

-- a type is read if names are ignored
abbrev pub names : Profile → Bool
names profile = profile.ignore.names

-- a type is read if texts are ignored
abbrev pub texts : Profile → Bool
texts profile = profile.ignore.texts

-- a type is read if properties are ignored
abbrev pub properties : Profile → Bool
properties profile = profile.ignore.properties

-- blocks are read if the profile unpacks them
abbrev pub blocks : Profile → Bool
blocks profile = profile.unpack

-- the types of records that are read, always or if they are ignored
abbrev pub types : List Row
types =
    row 0 always OfPad
    ∷ row 1 always OfStart
    ∷ row 2 always OfEnd
    ∷ row 3 always OfCellName
    ∷ row 4 always OfNumberedCellName
    ∷ row 5 texts (OfEntry (String A))
    ∷ row 6 texts (OfEntry (NumberedString A))
    ∷ row 7 properties (OfEntry (String N))
    ∷ row 8 properties (OfEntry (NumberedString N))
    ∷ row 9 properties (OfEntry (String B))
    ∷ row 10 properties (OfEntry (NumberedString B))
    ∷ row 11 names (OfEntry LayerName)
    ∷ row 12 names (OfEntry LayerName)
    ∷ row 13 always OfNumberedCell
    ∷ row 14 always OfNamedCell
    ∷ row 15 always OfXyAbsolute
    ∷ row 16 always OfXyRelative
    ∷ row 17 always OfPlacement
    ∷ row 18 always OfScaledPlacement
    ∷ row 19 texts OfText
    ∷ row 20 always OfRectangle
    ∷ row 21 always OfPolygon
    ∷ row 22 always OfPath
    ∷ row 28 properties OfProperty
    ∷ row 29 properties OfLastProperty
    ∷ row 30 names (OfEntry XName)
    ∷ row 31 names (OfEntry NumberedXName)
    ∷ row 34 blocks OfBlock
    ∷ []

-- the type if it is read, else Unsupported
abbrev pub type_if : Bool → RecordType → ℕ → Result RecordType RecordRule
type_if true kind n = Ok kind
type_if false kind n = Err (Unsupported n)

-- the type of the id n in a table; Unsupported if the table doesn't have it, or if it isn't read
abbrev pub look_up : Profile → List Row → ℕ → Result RecordType RecordRule
look_up profile [] n = Err (Unsupported n)
look_up profile (t ∷ ts) n = if n == t.id then type_if (t.is_read profile) t.kind n else look_up profile ts n

-- the type of records with an id
abbrev pub record_type : Profile → ℕ → Result RecordType RecordRule
record_type profile = look_up profile types

-- the fields of a record of that type, after an id of `id_len` bytes; `at_end` says whether the offsets of tables are
-- in END
abbrev pub AreFields : Bool → ℕ → RecordType → Spelling (Result Record RecordRule)
AreFields at_end id_len OfPad = Gives (Ok (Ok Pad))
AreFields at_end id_len OfStart = IsStart
AreFields at_end id_len OfEnd = IsEnd at_end id_len
AreFields at_end id_len OfCellName = Seen Ok IsCellName
AreFields at_end id_len OfNumberedCellName = Seen Ok IsNumberedName
AreFields at_end id_len OfNumberedCell = Seen Ok (IsCell true)
AreFields at_end id_len OfNamedCell = Seen Ok (IsCell false)
AreFields at_end id_len (OfEntry kind) = IsEntry kind
AreFields at_end id_len OfText = IsLabel
AreFields at_end id_len OfProperty = IsProperty
AreFields at_end id_len OfLastProperty = Gives (Ok (Ok Property))
AreFields at_end id_len OfXyAbsolute = Gives (Ok (Ok XyAbsolute))
AreFields at_end id_len OfXyRelative = Gives (Ok (Ok XyRelative))
AreFields at_end id_len OfPlacement = Seen Ok IsTurned
AreFields at_end id_len OfScaledPlacement = Seen Ok IsScaled
AreFields at_end id_len OfRectangle = IsRectangle
AreFields at_end id_len OfPolygon = IsPolygon
AreFields at_end id_len OfPath = IsPath
AreFields at_end id_len OfBlock = IsBlock

-- an id, and the fields of its record
abbrev pub IsRecord : Bool → Spelling (Result Record RecordRule)
IsRecord at_end =
    Then (Sized IsUnsigned) (λ id. AndThen (λ profile. Gives (Ok (record_type profile id.value)) profile)
    (AreFields at_end id.len))
