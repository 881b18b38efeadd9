-- What a call of an `Input` returns, and the state in which it leaves the input. Each call is an instance, by the
-- spelling S of its value: bytes say `Ok x` if they spell x, and `Err f` if they breach the rule f. The input has the
-- profile.
use Rattle.std.specs.Prelude.{◌≡◌, ◌≢◌, ℕ, ◌+◌, ◌-◌, ◌<◌, ◌≤◌, true, false, List, length, take, drop}
use Rattle.std.specs.Prelude.{Option, Some, Result, Ok, Err}
use Rattle.std.specs.Result.{is_err}
use Rattle.std.specs.Borrow.{GName}
use Rattle.lvl_io.specs.Bytes.{CountsFailure}
use Rattle.lvl_io.specs.Spelling.{FirstBytesSay, IsBegun, NoneAgrees}
use Rattle.lvl_refusal.specs.declared.Cause.{Cause}
use Rattle.lvl_refusal.specs.declared.Cause.TheVariants.{Breach, OutOfMemory}
use Rattle.oasis_values.specs.Faults.{is_rule, reader_failed}
use Rattle.oasis_values.specs.Input.{bytes_left, in_hand, input_offset, has_failed, input_profile, input_reader}
use Rattle.oasis_values.specs.Input.{room_left}
use Rattle.oasis_values.specs.Spelling.{Spelling}
use Rattle.oasis_values.specs.declared.fault.ValueFault.{ValueFault}
use Rattle.oasis_values.specs.declared.fault.ValueFault.TheVariants.{Truncated, TooLong, Read, Failed}
use Rattle.oasis_values.specs.declared.input.Input.{Input}

-- the bytes at the front breach the rule; they are within the limit, and all of them were read
pub record Breaks {A : Type 0} (S : List ℕ → Result A ValueFault → Type 0)
    (room had : ℕ) (xs : List ℕ) (f : ValueFault) : Type 0 where
  pub count : ℕ
  pub within : count ≤ room
  pub seen : count ≤ had
  pub front : FirstBytesSay S xs count (Err f)

-- what a fault says about the bytes xs that are left, if `room` of them are within the limit and `had` were read from
-- the reader
pub record Fails {A : Type 0} (S : List ℕ → Result A ValueFault → Type 0)
    (room had : ℕ) (xs : List ℕ) (f : ValueFault) : Type 0 where
  -- all bytes left are an unfinished beginning, and are within the limit
  pub truncated : f ≡ Truncated → (length xs ≤ room) × IsBegun S xs
  -- the bytes within the limit are an unfinished beginning, others follow, and at least one of these was read
  pub too_long : f ≡ TooLong → (room < length xs) × (room < had) × IsBegun S (take room xs)
  -- the bytes that were read are an unfinished beginning, and are within the limit
  pub unread : f ≡ Read → (had ≤ room) × IsBegun S (take had xs)
  -- any other fault is a rule that the bytes breach
  pub breached : is_rule f ≡ true → Breaks S room had xs f

-- what a result says about the bytes xs that are left, if n of them were taken, `had` were read, and `room` are within
-- the limit
abbrev pub Answers : {A : Type 0} → (List ℕ → Result A ValueFault → Type 0) → ℕ → ℕ → ℕ → List ℕ
    → Result A (Cause ValueFault) → Type 0
Answers S room had n xs (Ok x) = FirstBytesSay S xs n (Ok x) × (n ≤ room)
Answers S room had n xs (Err OutOfMemory) = Unit {0}
Answers S room had n xs (Err (Breach f)) = Fails S room had xs f

-- how many of the bytes left before a call were read from the reader by its end: those taken, and those in hand
abbrev pub bytes_had : {R : Type 0} → Input R → Input R → ℕ
bytes_had old new = (input_offset new - input_offset old) + in_hand new

-- a call of an input with the states `old` before and `new` after it returned r; `remaining`, `errors` and `lent` are
-- those of the reader
pub record Reads {R A : Type 0} (remaining : R → Option (List ℕ)) (errors : R → ℕ) (lent : R → List GName)
    (S : Spelling A) (old new : Input R) (r : Result A (Cause ValueFault)) : Type 0 where
  -- after a failed call every call returns `Failed`, and no other call does
  pub again : has_failed old ≡ true → r ≡ Err (Breach Failed)
  pub fresh : has_failed old ≡ false → r ≢ Err (Breach Failed)
  -- exactly the bytes taken spell the value; a fault is true of the bytes left, and of those that were read
  pub answers : has_failed old ≡ false → (xs : List ℕ) → bytes_left remaining old ≡ Some xs
      → Answers (S (input_profile old)) (room_left old) (bytes_had old new) (input_offset new - input_offset old) xs r
  -- the bytes left are those after the bytes taken, even after a fault
  pub left : (xs : List ℕ) → bytes_left remaining old ≡ Some xs
      → bytes_left remaining new ≡ Some (drop (input_offset new - input_offset old) xs)
  pub forward : input_offset old ≤ input_offset new
  -- the profile stays the same
  pub profiles : input_profile new ≡ input_profile old
  -- later calls fail exactly if this one returned a fault or was out of memory
  pub failed : has_failed new ≡ is_err r
  -- the reader returned an error during this call exactly if the call reports `Read`
  pub counted : CountsFailure (errors (input_reader old)) (errors (input_reader new)) (reader_failed r)
  -- the reader is still the one that was handed in
  pub same : lent (input_reader new) ≡ lent (input_reader old)

-- if the result is a rule that is breached, no bytes that spell a value agree with those at the front
abbrev pub IsRefuted : {A : Type 0} → (List ℕ → Result A ValueFault → Type 0) → List ℕ
    → Result A (Cause ValueFault) → Type 0
IsRefuted S xs (Ok x) = Unit {0}
IsRefuted S xs (Err OutOfMemory) = Unit {0}
IsRefuted {A = A} S xs (Err (Breach f)) = is_rule f ≡ true → (x : A) → NoneAgrees S xs (Ok x)

-- if a call returns a rule that is breached, no bytes that spell a value agree with those at the front
pub record Refutes {R A : Type 0} (remaining : R → Option (List ℕ)) (S : Spelling A) (old : Input R)
    (r : Result A (Cause ValueFault)) : Type 0 where
  pub none : has_failed old ≡ false → (xs : List ℕ) → bytes_left remaining old ≡ Some xs
      → IsRefuted (S (input_profile old)) xs r
