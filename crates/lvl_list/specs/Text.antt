-- Why the text of a list isn't read.
use Rattle.std.specs.Prelude.{◌≡◌, ◌<◌, ⊤, ℕ, Bool, true, false, List, length, Option, Some, Result, Err}
use Rattle.lvl_list.specs.declared.text.TextFault.{TextFault}
use Rattle.lvl_list.specs.declared.text.TextFault.TheVariants.{TooLong, Read, OutOfMemory}

-- what the fault says about the bytes of the reader, if they are known
abbrev pub IsTextFault : Option (List ℕ) → ℕ → TextFault → Type 0
IsTextFault bytes limit TooLong = (xs : List ℕ) → bytes ≡ Some xs → limit < length xs
IsTextFault bytes limit Read = ⊤
IsTextFault bytes limit OutOfMemory = ⊤

-- whether the result is that a read failed
abbrev pub is_read_fault : {A : Type 0} → Result A TextFault → Bool
is_read_fault (Err Read) = true
is_read_fault answer = false
