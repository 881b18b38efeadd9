-- Results of calls that read the next item of a file.
use Rattle.std.specs.Prelude.{Result, Ok, Err}
use Rattle.lvl_refusal.specs.declared.Cause.{Cause}
use Rattle.lvl_refusal.specs.declared.Cause.TheVariants.{Breach, OutOfMemory}
use Rattle.oasis_values.specs.declared.fault.ValueFault.{ValueFault}
use Rattle.oasis_records.specs.declared.fault.RecordFault.{RecordFault}
use Rattle.oasis_records.specs.declared.fault.RecordFault.TheVariants.{Value as OfValue, Rule}
use Rattle.oasis_records.specs.declared.record.Record.{Record}
use Rattle.oasis_stream.specs.Items.{Item, magic, item}
use Rattle.oasis_stream.specs.declared.fault.OasisKind.{OasisKind}
use Rattle.oasis_stream.specs.declared.fault.OasisKind.TheVariants.{Value, Record as OfRecord}

-- a fault of a value is one of the input; any other rule is breached by the bytes taken
abbrev pub of_kind : OasisKind → Result (Result Item OasisKind) (Cause ValueFault)
of_kind (Value f) = Err (Breach f)
of_kind k = Ok (Err k)

-- the result of a call that reads a record, as a result of the input
abbrev pub reported_record : Result Record (Cause OasisKind) → Result (Result Item OasisKind) (Cause ValueFault)
reported_record (Ok r) = Ok (Ok (item r))
reported_record (Err OutOfMemory) = Err OutOfMemory
reported_record (Err (Breach k)) = of_kind k

-- the fault of a record as one of the file
abbrev pub kind_of : RecordFault → OasisKind
kind_of (OfValue f) = Value f
kind_of (Rule k) = OfRecord k

abbrev pub of_fault : {A : Type 0} → Result A (Cause RecordFault) → Result A (Cause OasisKind)
of_fault (Ok r) = Ok r
of_fault (Err OutOfMemory) = Err OutOfMemory
of_fault (Err (Breach f)) = Err (Breach (kind_of f))

-- the result of a call that reads the magic string, as a result of the input
abbrev pub reported_magic : Result (Unit {0}) OasisKind → Result (Result Item OasisKind) (Cause ValueFault)
reported_magic (Ok u) = Ok (Ok magic)
reported_magic (Err k) = of_kind k

abbrev pub of_magic_fault : Result (Unit {0}) RecordFault → Result (Unit {0}) OasisKind
of_magic_fault (Ok u) = Ok u
of_magic_fault (Err f) = Err (kind_of f)
