-- What a refusal says about the input (own rule).
use Rattle.std.specs.Prelude.{ℕ, Bool, false, List, Option, Result, Ok, Err}
use Rattle.lvl_refusal.specs.declared.Cause.{Cause}
use Rattle.lvl_refusal.specs.declared.Cause.TheVariants.{Breach, OutOfMemory}
use Rattle.lvl_grammar.specs.Front.{SpellsWhole}
use Rattle.lvl_grammar.specs.Refused.{IsUnread}
use Rattle.lvl_profile.specs.declared.profile.Profile.{Profile}
use Rattle.oasis_values.specs.declared.fault.ValueFault.TheVariants.{Truncated, Read}
use Rattle.oasis_stream.specs.Ends.{ReportsAt, is_read_kind}
use Rattle.oasis_stream.specs.Front.{oasis}
use Rattle.oasis_stream.specs.Faults.{oasis_faults}
use Rattle.oasis_stream.specs.Items.{Item, records}
use Rattle.oasis_stream.specs.Order.{names_in}
use Rattle.oasis_stream.specs.declared.fault.OasisKind.TheVariants.{Value}
use Rattle.oasis_library.specs.Cells.{drawings}
use Rattle.oasis_library.specs.Names.{numbers_used, IsUnnamed}
use Rattle.oasis_library.specs.declared.fault.OasisFault.{OasisFault}
use Rattle.oasis_library.specs.declared.fault.OasisFault.TheVariants.{At, Unresolved}

-- the bytes are a whole file, and n is the first number used in it that no CELLNAME has
abbrev pub ReportsUnresolved : Profile → List ℕ → ℕ → Type 0
ReportsUnresolved profile xs n =
    (is : List Item) × SpellsWhole (oasis profile) xs is × IsUnnamed (names_in (records is))
    (numbers_used (drawings (records is))) n

-- the fault and its offset are right
abbrev pub Reports : Profile → List ℕ → OasisFault → Type 0
Reports profile xs (At at k) = ReportsAt profile xs at k
Reports profile xs (Unresolved n) = ReportsUnresolved profile xs n

-- the fault says nothing about the input, since the reader failed
abbrev pub IsExcused : OasisFault → Type 0
IsExcused (At at (Value Read)) = Unit {0}
IsExcused f = ⊥

-- if the reader failed, the bytes before the offset are a front; of those from it on, the ones that it gave are none or
-- an unfinished beginning of a record, and it has the others left
abbrev pub ReportsUnread : Profile → List ℕ → Option (List ℕ) → OasisFault → Type 0
ReportsUnread profile xs left (At at (Value Read)) = IsUnread (oasis_faults profile) xs left at
ReportsUnread profile xs left f = Unit {0}

-- the fault is decided by the bytes that were taken, whatever comes after them: it is neither that the input ended nor
-- that the reader failed
abbrev pub IsEarly : OasisFault → Type 0
IsEarly (At at (Value Truncated)) = ⊥
IsEarly (At at (Value Read)) = ⊥
IsEarly (At at k) = Unit {0}
IsEarly (Unresolved n) = ⊥

-- whether the fault is that the reader failed
abbrev pub is_read_error : OasisFault → Bool
is_read_error (At at k) = is_read_kind k
is_read_error (Unresolved n) = false

-- whether the result is that the reader failed
abbrev pub is_read : {A : Type 0} → Result A (Cause OasisFault) → Bool
is_read (Ok x) = false
is_read (Err (Breach f)) = is_read_error f
is_read (Err OutOfMemory) = false
