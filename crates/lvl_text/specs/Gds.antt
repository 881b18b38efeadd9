-- What a GDSII file says about itself, and why one is refused, as they are printed (own rule).
use Rattle.std.specs.Prelude.{ℕ, ◌/◌, ◌%◌, List, [], ◌∷◌, ◌++◌, flat_map, false, codes, decimal}
use Rattle.std.specs.Fmt.{signed_decimal, digit_glyph}
use Rattle.gds_records.specs.declared.fault.RecordFault.{RecordFault}
use Rattle.gds_records.specs.declared.fault.RecordFault.TheVariants.{Truncated, BadLength, BadDataType, UnknownRecord}
use Rattle.gds_records.specs.declared.fault.RecordFault.TheVariants.{TooLong, Read}
use Rattle.gds_elements.specs.declared.fault.Misplaced.{Misplaced as MisplacedRecord}
use Rattle.gds_elements.specs.declared.fault.Misplaced.TheVariants.{Unexpected, Unsupported}
use Rattle.gds_elements.specs.declared.fault.ElementRule.{ElementRule}
use Rattle.gds_elements.specs.declared.fault.ElementRule.TheVariants.{Layer, Points, NotClosed, Strans, Magnification}
use Rattle.gds_elements.specs.declared.fault.ElementRule.TheVariants.{Angle, ColRow, ArrayStep, Name, Path, Width}
use Rattle.gds_elements.specs.declared.fault.ElementRule.TheVariants.{PathType, Oblique, Repetition}
use Rattle.gds_library.specs.declared.fault.GdsKind.{GdsKind}
use Rattle.gds_library.specs.declared.fault.GdsKind.TheVariants.{Record, Misplaced, Element, Name as CellName, AfterEnd}
use Rattle.gds_library.specs.declared.fault.GdsKind.TheVariants.{TooManyCells}
use Rattle.gds_library.specs.declared.head.GdsHead.{GdsHead}
use Rattle.lvl_text.specs.Faults.{spaced, path_fault}

-- a byte as two hexadecimal digits in lower case
abbrev pub hex_byte : ℕ → List ℕ
hex_byte byte = digit_glyph false (byte / 16) ∷ digit_glyph false (byte % 16) ∷ []

-- bytes as hexadecimal digits in lower case, two for each
abbrev pub hex : List ℕ → List ℕ
hex bytes = flat_map hex_byte bytes

-- the version in decimal, and each of the two units as the eight bytes of its real
abbrev pub gds_head_text : GdsHead → List ℕ
gds_head_text head =
    codes "GDSII version " ++ signed_decimal head.version ++ codes " units"
    ++ flat_map (λ unit. spaced (hex unit)) head.units

-- a fault of a record
abbrev pub record_fault : RecordFault → List ℕ
record_fault Truncated = codes "1 Truncated"
record_fault BadLength = codes "2 BadLength"
record_fault BadDataType = codes "3 BadDataType"
record_fault UnknownRecord = codes "4 UnknownRecord"
record_fault TooLong = codes "5 TooLong"
record_fault Read = codes "6 Read"

-- a record that may not come where it is, with its type in decimal
abbrev pub misplaced_record : MisplacedRecord → List ℕ
misplaced_record (Unexpected kind) = codes "10 Unexpected " ++ decimal kind
misplaced_record (Unsupported kind) = codes "11 Unsupported " ++ decimal kind

-- a rule of an element
abbrev pub element_rule : ElementRule → List ℕ
element_rule Layer = codes "12 Layer"
element_rule Points = codes "13 Points"
element_rule NotClosed = codes "14 NotClosed"
element_rule Strans = codes "15 Strans"
element_rule Magnification = codes "16 Magnification"
element_rule Angle = codes "17 Angle"
element_rule ColRow = codes "18 ColRow"
element_rule ArrayStep = codes "19 ArrayStep"
element_rule Name = codes "20 Name"
element_rule (Path fault) = codes "21 Path" ++ spaced (path_fault fault)
element_rule Width = codes "22 Width"
element_rule PathType = codes "23 PathType"
element_rule Oblique = codes "25 Oblique"
element_rule Repetition = codes "26 Repetition"

-- a fault of a GDSII stream, without its offset
abbrev pub gds_fault : GdsKind → List ℕ
gds_fault (Record fault) = record_fault fault
gds_fault (Misplaced found) = misplaced_record found
gds_fault (Element rule) = element_rule rule
gds_fault CellName = codes "20 Name"
gds_fault AfterEnd = codes "24 AfterEnd"
gds_fault TooManyCells = codes "27 TooManyCells"
