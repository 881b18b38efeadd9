-- What bytes say about the next record of a file (SEMI P39 OASIS 1.0, "Magic-bytes", "Records", "CBLOCK record"). A
-- block is read as it is packed. `inside` says whether the record comes inside a block.
use Rattle.std.specs.Prelude.{ℕ, Bool, false, List, [], ◌∷◌, Result, Ok, Err}
use Rattle.oasis_values.specs.Known.{Seen}
use Rattle.oasis_values.specs.Numbers.{IsUnsigned}
use Rattle.oasis_values.specs.Spelling.{Spelling, Gives, Then}
use Rattle.oasis_records.specs.declared.measured.Measured.{Measured}
use Rattle.oasis_records.specs.Magic.{IsMagic}
use Rattle.oasis_records.specs.Records.{AreFields}
use Rattle.oasis_records.specs.Sizes.{Sized}
use Rattle.oasis_records.specs.declared.fault.RecordRule.{RecordRule}
use Rattle.oasis_records.specs.declared.record.Record.{Record}
use Rattle.oasis_records.specs.declared.record_type.RecordType.{RecordType}
use Rattle.oasis_stream.specs.Items.{Item, magic, item, records}
use Rattle.oasis_stream.specs.Order.{at_end, type_after}
use Rattle.oasis_stream.specs.declared.fault.OasisKind.{OasisKind}
use Rattle.oasis_stream.specs.declared.fault.OasisKind.TheVariants.{Record as OfRecord}

-- the magic string as an item, or the rule that is breached
abbrev pub of_magic : Result (Unit {0}) RecordRule → Result Item OasisKind
of_magic (Ok u) = Ok magic
of_magic (Err k) = Err (OfRecord k)

-- the record as an item, or the rule that it breaches by itself
abbrev pub of_record : Result Record RecordRule → Result Item OasisKind
of_record (Ok r) = Ok (item r)
of_record (Err k) = Err (OfRecord k)

-- the fields of a record of that type, after an id of `id_len` bytes; if the id breaches a rule, nothing more is read
abbrev pub IsTyped : Bool → ℕ → Result RecordType OasisKind → Spelling (Result Item OasisKind)
IsTyped has_offsets id_len (Ok t) = Seen of_record (AreFields has_offsets id_len t)
IsTyped has_offsets id_len (Err k) = Gives (Ok (Err k))

-- the fields of a record with that id, after the records rs
abbrev pub IsTypedAfter : Bool → List Record → Measured → Spelling (Result Item OasisKind)
IsTypedAfter inside rs id profile = IsTyped (at_end rs) id.len (type_after inside profile rs id.value) profile

-- what bytes say about the next record, after the records rs
abbrev pub IsNext : Bool → List Record → Spelling (Result Item OasisKind)
IsNext inside rs = Then (Sized IsUnsigned) (IsTypedAfter inside rs)

-- what bytes say about the next item of a file, as it is packed; the first is the magic string
abbrev pub IsItem : List Item → Spelling (Result Item OasisKind)
IsItem [] = Seen of_magic IsMagic
IsItem (i ∷ is) = IsNext false (records (i ∷ is))
