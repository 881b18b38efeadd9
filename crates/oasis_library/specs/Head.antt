-- The head of a file (SEMI P39 OASIS 1.0, "START record", "END record").
use Rattle.std.specs.Prelude.{List, [], ◌∷◌, flat_map}
use Rattle.oasis_values.specs.declared.number.Real.{Real}
use Rattle.oasis_values.specs.declared.number.Real.TheVariants.{Whole}
use Rattle.oasis_records.specs.declared.end.Validation.{Validation}
use Rattle.oasis_records.specs.declared.end.Validation.TheVariants.{Absent, Crc32, Checksum32}
use Rattle.oasis_records.specs.declared.record.Record.{Record}
use Rattle.oasis_records.specs.declared.record.Record.TheVariants.{Start, End}
use Rattle.oasis_stream.specs.Order.{last_or}
use Rattle.oasis_library.specs.declared.head.OasisHead.{OasisHead}

-- the head by the unit and the validation; without a signature its bytes are four zeros
abbrev pub head : Real → Validation → OasisHead
head unit Absent = record { unit = unit; scheme = 0; signature = 0 ∷ 0 ∷ 0 ∷ 0 ∷ [] }
head unit (Crc32 bytes) = record { unit = unit; scheme = 1; signature = bytes }
head unit (Checksum32 bytes) = record { unit = unit; scheme = 2; signature = bytes }

-- the unit in a START
abbrev pub unit_in : Record → List Real
unit_in (Start s) = s.unit ∷ []
unit_in r = []

-- the validation in an END
abbrev pub validation_in : Record → List Validation
validation_in (End v) = v ∷ []
validation_in r = []

-- the head of a file: the unit in START, and the validation in END
abbrev pub head_of : List Record → OasisHead
head_of rs = head (last_or (Whole 0) (flat_map unit_in rs)) (last_or Absent (flat_map validation_in rs))
