-- The faults of values (own rule).
use Rattle.std.specs.Prelude.{Bool, true, false, List, Result, Ok, Err}
use Rattle.std.specs.Global.{Vec}
use Rattle.lvl_refusal.specs.declared.Cause.{Cause}
use Rattle.lvl_refusal.specs.declared.Cause.TheVariants.{Breach, OutOfMemory}
use Rattle.oasis_values.specs.declared.fault.ValueFault.{ValueFault}
use Rattle.oasis_values.specs.declared.fault.ValueFault.TheVariants.{Truncated, TooLong, Read, Failed}

-- the result of a call that doesn't allocate, as that of one that may
abbrev pub as_breach : {A : Type 0} → Result A ValueFault → Result A (Cause ValueFault)
as_breach (Ok x) = Ok x
as_breach (Err f) = Err (Breach f)

-- whether the fault is a rule that the bytes breach: all except these four, which concern the end of the input, the
-- limit and the reader
abbrev pub is_rule : ValueFault → Bool
is_rule Truncated = false
is_rule TooLong = false
is_rule Read = false
is_rule Failed = false
is_rule f = true

-- whether the fault is that the reader failed
abbrev pub is_read_fault : ValueFault → Bool
is_read_fault Read = true
is_read_fault f = false

-- whether a call reported that the reader failed
abbrev pub reader_failed : {A : Type 0} → Result A (Cause ValueFault) → Bool
reader_failed (Ok x) = false
reader_failed (Err OutOfMemory) = false
reader_failed (Err (Breach f)) = is_read_fault f

-- the list in a vector that was read
abbrev pub items : {A : Type 0} → Result (Vec A) (Cause ValueFault) → Result (List A) (Cause ValueFault)
items (Ok v) = Ok v.items
items (Err e) = Err e
