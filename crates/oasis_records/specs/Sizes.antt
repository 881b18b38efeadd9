-- Integers with the number of bytes that they, and all read before them in S, took (own notation).
use Rattle.std.specs.Prelude.{◌≡◌, ℕ, List, length, Result, Ok, Err}
use Rattle.lvl_profile.specs.declared.profile.Profile.{Profile}
use Rattle.oasis_values.specs.Spelling.{Spelling}
use Rattle.oasis_values.specs.declared.fault.ValueFault.{ValueFault}
use Rattle.oasis_records.specs.declared.measured.Measured.{Measured}

-- the integer of S, and the number of all bytes of S
abbrev pub Sized : Spelling ℕ → Profile → List ℕ → Result Measured ValueFault → Type 0
Sized S profile b (Ok m) = S profile b (Ok m.value) × (m.len ≡ length b)
Sized S profile b (Err f) = S profile b (Err f)
