-- The rules of records, besides those of values (own notation). What bytes say about a record is a value like any
-- other: the record, or the rule that they breach. The bytes taken are then those that spell the record, or those that
-- breach the rule.
use Rattle.std.specs.Prelude.{◌≡◌, Bool, true, false, ℕ, List, Option, Some, Result, Ok, Err}
use Rattle.lvl_io.specs.Spelling.{NoneAgrees}
use Rattle.lvl_refusal.specs.declared.Cause.{Cause}
use Rattle.lvl_refusal.specs.declared.Cause.TheVariants.{Breach, OutOfMemory}
use Rattle.oasis_values.specs.Faults.{is_rule}
use Rattle.oasis_values.specs.Input.{has_failed, input_profile, bytes_left}
use Rattle.oasis_values.specs.Spelling.{Spelling, Gives, Then}
use Rattle.oasis_values.specs.declared.fault.ValueFault.{ValueFault}
use Rattle.oasis_values.specs.declared.input.Input.{Input}
use Rattle.oasis_records.specs.declared.fault.RecordFault.{RecordFault}
use Rattle.oasis_records.specs.declared.fault.RecordFault.TheVariants.{Value, Rule}
use Rattle.oasis_records.specs.declared.fault.RecordRule.{RecordRule}

-- a fault as a result of the input: a fault of a value is one of the input, a breached rule of records is a value
abbrev pub of_fault : {A : Type 0} → RecordFault → Result (Result A RecordRule) (Cause ValueFault)
of_fault (Value f) = Err (Breach f)
of_fault (Rule k) = Ok (Err k)

-- the result of a call, as a result of the input
abbrev pub reported : {A : Type 0} → Result A (Cause RecordFault) → Result (Result A RecordRule) (Cause ValueFault)
reported (Ok x) = Ok (Ok x)
reported (Err OutOfMemory) = Err OutOfMemory
reported (Err (Breach f)) = of_fault f

-- the result of a call that doesn't allocate, as a result of the input
abbrev pub reported_breach : {A : Type 0} → Result A RecordFault → Result (Result A RecordRule) (Cause ValueFault)
reported_breach (Ok x) = Ok (Ok x)
reported_breach (Err f) = of_fault f

-- the result of a call that tests no rule of records, as a result of the input
abbrev pub plain : {A : Type 0} → Result A (Cause ValueFault) → Result (Result A RecordRule) (Cause ValueFault)
plain (Ok x) = Ok (Ok x)
plain (Err e) = Err e

-- the result of a call that writes its value to a place, where x is afterwards
abbrev pub written : {A E : Type 0} → Result (Unit {0}) E → A → Result A E
written (Ok u) x = Ok x
written (Err e) x = Err e

-- the value if the rule is kept, else the rule
abbrev pub obeyed : {A : Type 0} → Bool → A → RecordRule → Result A RecordRule
obeyed true x k = Ok x
obeyed false x k = Err k

-- no further byte is read: the value is given if the rule is kept, else the rule
abbrev pub Must : {A : Type 0} → Bool → A → RecordRule → Spelling (Result A RecordRule)
Must b x k = Gives (Ok (obeyed b x k))

-- T for a value; after a breach of a rule of records nothing more is read
abbrev pub UnlessRuled : {A B : Type 0} → (A → Spelling (Result B RecordRule)) → Result A RecordRule
    → Spelling (Result B RecordRule)
UnlessRuled T (Ok x) = T x
UnlessRuled T (Err k) = Gives (Ok (Err k))

-- S and then T for its value; a breach in S is a breach in the whole
abbrev pub AndThen : {A B : Type 0} → Spelling (Result A RecordRule) → (A → Spelling (Result B RecordRule))
    → Spelling (Result B RecordRule)
AndThen S T = Then S (UnlessRuled T)

-- if the result is a rule that is breached, of records or of values, no bytes that spell a record agree with those at
-- the front
abbrev pub IsDenied : {A : Type 0} → (List ℕ → Result (Result A RecordRule) ValueFault → Type 0) → List ℕ
    → Result (Result A RecordRule) (Cause ValueFault) → Type 0
IsDenied S xs (Ok (Ok x)) = Unit {0}
IsDenied {A = A} S xs (Ok (Err k)) = (x : A) → NoneAgrees S xs (Ok (Ok x))
IsDenied S xs (Err OutOfMemory) = Unit {0}
IsDenied {A = A} S xs (Err (Breach f)) = is_rule f ≡ true → (x : A) → NoneAgrees S xs (Ok (Ok x))

-- if a call returns a rule that is breached, of records or of values, no bytes that spell a record agree with those at
-- the front
pub record Denies {R A : Type 0} (remaining : R → Option (List ℕ)) (S : Spelling (Result A RecordRule))
    (old : Input R) (r : Result (Result A RecordRule) (Cause ValueFault)) : Type 0 where
  pub none : has_failed old ≡ false → (xs : List ℕ) → bytes_left remaining old ≡ Some xs
      → IsDenied (S (input_profile old)) xs r
