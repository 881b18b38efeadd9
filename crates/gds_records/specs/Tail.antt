-- What `tail` returns: it takes zero bytes up to the end of the input, another byte, or the limit of a file.
use Rattle.std.specs.Prelude.{◌≡◌, ◌≢◌, Bool, true, false, ℕ, ◌+◌, ◌<◌, ◌≤◌, List, [], ◌∷◌, ◌++◌, length, replicate}
use Rattle.std.specs.Prelude.{Option, Some, None, Result, Ok, Err}
use Rattle.gds_records.specs.declared.fault.RecordFault.TheVariants.{TooLong, Read}
use Rattle.gds_records.specs.declared.fault.Stopped.{Stopped}
use Rattle.gds_records.specs.declared.fault.Stopped.TheVariants.{Fault}
use Rattle.gds_records.specs.declared.zeros.After.{After}
use Rattle.gds_records.specs.declared.zeros.After.TheVariants.{Nothing, Another, Limit, Failure}

-- all bytes are zero
abbrev pub AreZeros : List ℕ → Type 0
AreZeros xs = xs ≡ replicate (length xs) 0

-- after n zero bytes comes another byte
abbrev pub IsFirstOther : ℕ → List ℕ → Type 0
IsFirstOther n xs = (b : ℕ) × (rest : List ℕ) × (b ≢ 0) × (xs ≡ replicate n 0 ++ (b ∷ rest))

-- the input passes the limit, and its bytes within the limit are zero
abbrev pub PassesLimit : ℕ → List ℕ → Type 0
PassesLimit room xs = (rest : List ℕ) × (0 < length rest) × (xs ≡ replicate room 0 ++ rest)

-- what `tail` returns for the bytes xs that are left, with room for some before the limit; old and new are how many
-- bytes of the input were taken before the call and after it
abbrev pub AnswersTail : Result (Option ℕ) Stopped → ℕ → ℕ → ℕ → List ℕ → Type 0
AnswersTail (Ok None) old new room xs = AreZeros xs × (length xs ≤ room) × (new ≡ old + length xs)
AnswersTail (Ok (Some at)) old new room xs = (n : ℕ) × (n < room) × IsFirstOther n xs × (at ≡ old + n) × (new ≡ at)
AnswersTail (Err (Fault TooLong)) old new room xs = PassesLimit room xs × (new ≡ old + room)
AnswersTail (Err (Fault Read)) old new room xs =
    (n : ℕ) × (rest : List ℕ) × (n ≤ room) × (xs ≡ replicate n 0 ++ rest) × (new ≡ old + n)
AnswersTail (Err e) old new room xs = ⊥

-- the first byte, if there is one, isn't zero
abbrev pub IsNoZeroFirst : List ℕ → Type 0
IsNoZeroFirst [] = Unit {0}
IsNoZeroFirst (b ∷ rest) = b ≢ 0

-- why exactly n zero bytes were taken, if `left` is what comes after them
abbrev pub Stops : After → ℕ → ℕ → List ℕ → Type 0
Stops Nothing n room left = left ≡ []
Stops Another n room left = (n < room) × (0 < length left) × IsNoZeroFirst left
Stops Limit n room left = (n ≡ room) × (0 < length left)
Stops Failure n room left = Unit {0}

-- if the bytes were known to be old, n zero bytes were taken from them and new are left
abbrev pub TakesZeros : After → ℕ → ℕ → Option (List ℕ) → Option (List ℕ) → Type 0
TakesZeros a n room old new = (xs : List ℕ) → old ≡ Some xs
    → (left : List ℕ) × (new ≡ Some left) × (xs ≡ replicate n 0 ++ left) × Stops a n room left

-- whether the reader returned an error
abbrev pub is_failure : After → Bool
is_failure Failure = true
is_failure a = false
