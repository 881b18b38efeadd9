-- How integers and bytes are found among the bytes in hand.
use Rattle.std.specs.Prelude.{◌≡◌, ◌≢◌, ℕ, ◌^◌, ◌<◌, List, length, Option, Some, Result, Ok, Err}
use Rattle.lvl_profile.specs.declared.profile.Profile.{Profile}
use Rattle.lvl_io.specs.Spelling.{FirstBytesSay}
use Rattle.oasis_values.specs.Numbers.{groups, Continues, most_bytes, IsUnsigned}
use Rattle.oasis_values.specs.Reads.{Fails}
use Rattle.oasis_values.specs.declared.fault.ValueFault.{ValueFault}
use Rattle.oasis_values.specs.declared.fault.ValueFault.TheVariants.{Truncated, IntegerTooLarge, TooLong, Read, Failed}
use Rattle.oasis_values.specs.declared.find.Found.{Found}
use Rattle.oasis_values.specs.declared.integer.Leading.{Leading}
use Rattle.oasis_values.specs.declared.integer.Leading.TheVariants.{Whole, TooLarge, Unfinished}

-- what the bytes begin with
abbrev pub Leads : Profile → Leading → List ℕ → Type 0
Leads profile (Whole value len) xs = FirstBytesSay (IsUnsigned profile) xs len (Ok value)
Leads profile (TooLarge len) xs = FirstBytesSay (IsUnsigned profile) xs len (Err IntegerTooLarge)
Leads profile Unfinished xs = Continues xs × (length xs < most_bytes profile) × (groups xs < 2 ^ 64)

-- the faults that are possible when another byte is needed
abbrev pub IsStop : ValueFault → Type 0
IsStop Truncated = Unit {0}
IsStop TooLong = Unit {0}
IsStop Read = Unit {0}
IsStop f = ⊥

-- n bytes of xs were there and one more was needed; now `had` are in hand: xs has no more, or the limit allows no more,
-- or no more could be read
abbrev pub Stops : ValueFault → ℕ → ℕ → ℕ → List ℕ → Type 0
Stops Truncated n room had xs = length xs ≡ n
Stops TooLong n room had xs = (room ≡ n) × (n < length xs) × (n < had)
Stops Read n room had xs = had ≡ n
Stops f n room had xs = Unit {0}

-- what was found at the front of the bytes, if they are known, `room` of them are within the limit and `had` are in
-- hand
abbrev pub Finds : {A : Type 0} → (List ℕ → Result A ValueFault → Type 0) → ℕ → ℕ → Option (List ℕ)
    → Result (Found A) ValueFault → Type 0
Finds S room had known (Ok found) = (xs : List ℕ) → known ≡ Some xs → FirstBytesSay S xs found.len (Ok found.value)
Finds S room had known (Err f) = (f ≢ Failed) × ((xs : List ℕ) → known ≡ Some xs → Fails S room had xs f)
