-- The parts of an `Input`, for contracts.
use Rattle.std.specs.Prelude.{ℕ, ◌-◌, Bool, List, length, Option}
use Rattle.std.specs.Io.KnownBytes.{prepend_known}
use Rattle.lvl_profile.specs.declared.profile.Profile.{Profile}
use Rattle.oasis_values.specs.declared.input.Input.{Input}

-- the bytes still to come, if they are known; `remaining` gives those that the reader has left
abbrev pub bytes_left : {R : Type 0} → (R → Option (List ℕ)) → Input R → Option (List ℕ)
bytes_left remaining i = prepend_known i.ahead (remaining i.reader)

-- the bytes that were read from the reader and not yet taken
abbrev pub bytes_in_hand : {R : Type 0} → Input R → List ℕ
bytes_in_hand i = i.ahead

-- how many bytes were read from the reader and not yet taken
abbrev pub in_hand : {R : Type 0} → Input R → ℕ
in_hand i = length i.ahead

-- how many bytes of the input were taken
abbrev pub input_offset : {R : Type 0} → Input R → ℕ
input_offset i = i.offset

-- whether an earlier call failed
abbrev pub has_failed : {R : Type 0} → Input R → Bool
has_failed i = i.failed

-- what the file may be
abbrev pub input_profile : {R : Type 0} → Input R → Profile
input_profile i = i.profile

-- the reader
abbrev pub input_reader : {R : Type 0} → Input R → R
input_reader i = i.reader

-- how many bytes may still be taken within the limit
abbrev pub room_left : {R : Type 0} → Input R → ℕ
room_left i = i.profile.limits.file - i.offset
