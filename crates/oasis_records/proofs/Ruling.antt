-- Calls one after another, if the first has rules of records.
use Rattle.std.proofs.Common.{◌≡◌, ℕ, Bool, false, List, Result, Ok, Err, refl, sym, ap, subst}
use Rattle.std.specs.Prelude.{Option}
use Rattle.std.specs.Borrow.{GName}
use Rattle.lvl_io.proofs.Spelling.{breached_none, front_only}
use Rattle.lvl_refusal.specs.declared.Cause.{Cause}
use Rattle.lvl_refusal.specs.declared.Cause.TheVariants.{Breach, OutOfMemory}
use Rattle.oasis_values.specs.Known.{Seen}
use Rattle.oasis_values.specs.Input.{has_failed, input_profile}
use Rattle.oasis_values.specs.Reads.{Reads}
use Rattle.oasis_values.specs.Spelling.{Spelling}
use Rattle.oasis_values.proofs.Codes.{gives_code, then_code, IsCode}
use Rattle.oasis_values.specs.declared.fault.ValueFault.{ValueFault}
use Rattle.oasis_values.specs.declared.input.Input.{Input}
use Rattle.oasis_values.proofs.Reading.{reads_err, reads_then, reads_nothing, reads_seen, reads_seen_err}
use Rattle.oasis_records.specs.Rules.{of_fault, reported, reported_breach, plain, obeyed, Must, UnlessRuled, AndThen}
use Rattle.oasis_records.specs.Rules.{written}
use Rattle.oasis_records.specs.Rules.{Denies}
use Rattle.oasis_records.specs.declared.fault.RecordFault.{RecordFault}
use Rattle.oasis_records.specs.declared.fault.RecordFault.TheVariants.{Value, Rule}
use Rattle.oasis_records.specs.declared.fault.RecordRule.{RecordRule}

pub unless_code : {A B : Type 0} {T : A → Spelling (Result B RecordRule)}
    → ((x : A) → IsCode (T x)) → (r : Result A RecordRule) → IsCode (UnlessRuled T r)
unless_code t (Ok x) = t x
unless_code t (Err k) = gives_code

pub and_then_code : {A B : Type 0} {S : Spelling (Result A RecordRule)}
    {T : A → Spelling (Result B RecordRule)}
    → IsCode S → ((x : A) → IsCode (T x)) → IsCode (AndThen S T)
and_then_code {S = S} {T = T} s t = then_code {S = S} {T = UnlessRuled T} s (unless_code t)

-- a fault of the first is a fault of the whole
pub reads_stop : {R A B : Type 0} {remaining : R → Option (List ℕ)} {errors : R → ℕ} {lent : R → List GName}
    {S : Spelling (Result A RecordRule)}
    (T : A → Spelling (Result B RecordRule)) {old new : Input R} (e : RecordFault)
    → ((x : A) → IsCode (T x)) → Reads remaining errors lent S old new (of_fault e)
    → Reads remaining errors lent (AndThen S T) old new (of_fault e)
reads_stop T (Value f) can p = reads_err (UnlessRuled T) (λ r. unless_code can r) p
reads_stop T (Rule k) can p = reads_then (UnlessRuled T) p (reads_nothing (Err k) p.failed)

pub reads_halt : {R A B : Type 0} {remaining : R → Option (List ℕ)} {errors : R → ℕ} {lent : R → List GName}
    {S : Spelling (Result A RecordRule)}
    (T : A → Spelling (Result B RecordRule)) {old new : Input R}
    (e : Cause RecordFault)
    → ((x : A) → IsCode (T x)) → Reads remaining errors lent S old new (reported (Err e))
    → Reads remaining errors lent (AndThen S T) old new (reported (Err e))
reads_halt T (Breach f) can p = reads_stop T f can p
reads_halt T OutOfMemory can p = reads_err (UnlessRuled T) (λ r. unless_code can r) p

-- the first breached no rule
pub reads_go : {R A B : Type 0} {remaining : R → Option (List ℕ)} {errors : R → ℕ} {lent : R → List GName}
    {S : Spelling (Result A RecordRule)}
    (T : A → Spelling (Result B RecordRule)) {old mid new : Input R} {x : A}
    {r : Result (Result B RecordRule) (Cause ValueFault)}
    → Reads remaining errors lent S old mid (Ok (Ok x)) → Reads remaining errors lent (T x) mid new r
    → Reads remaining errors lent (AndThen S T) old new r
reads_go T p q = reads_then (UnlessRuled T) p q

-- a value that was written to a place, as part of another one
pub reads_in : {R A B : Type 0} {remaining : R → Option (List ℕ)} {errors : R → ℕ} {lent : R → List GName}
    {S : Spelling A} {old new : Input R} (show : A → B) (r : Result (Unit {0}) (Cause ValueFault)) (x : A)
    → Reads remaining errors lent S old new (written r x)
    → Reads remaining errors lent (Seen show S) old new (written r (show x))
reads_in show (Ok u) x p = reads_seen show p
reads_in show (Err e) x p = reads_seen_err show p

-- no rule of records was tested
pub reads_plain : {R A : Type 0} {remaining : R → Option (List ℕ)} {errors : R → ℕ} {lent : R → List GName}
    {S : Spelling A} {old new : Input R} (r : Result A (Cause ValueFault))
    → Reads remaining errors lent S old new r → Reads remaining errors lent (Seen Ok S) old new (plain r)
reads_plain (Ok x) p = reads_seen Ok p
reads_plain (Err e) p = reads_seen_err Ok p

-- a value that was written to a place is there without a rule of records
reported_written : {A : Type 0} (answer : Result (Unit {0}) (Cause ValueFault))
    (result : Result (Unit {0}) (Cause RecordFault)) (x : A) → reported result ≡ plain answer
    → reported (written result x) ≡ plain (written answer x)
reported_written (Ok u) (Ok v) x e = refl
reported_written (Ok u) (Err OutOfMemory) x e = absurd (cc)
reported_written (Ok u) (Err (Breach (Value f))) x e = absurd (cc)
reported_written (Ok u) (Err (Breach (Rule k))) x e = absurd (cc)
reported_written (Err a) (Ok v) x e = absurd (cc)
reported_written (Err a) (Err OutOfMemory) x e = let q : OutOfMemory ≡ a = cc in ap Err q
reported_written (Err a) (Err (Breach (Value f))) x e = let q : Breach f ≡ a = cc in ap Err q
reported_written (Err a) (Err (Breach (Rule k))) x e = absurd (cc)

-- no rule of records was tested, and the value was written to a place
pub reads_plain_in : {R A : Type 0} {remaining : R → Option (List ℕ)} {errors : R → ℕ} {lent : R → List GName}
    {S : Spelling A} {old new : Input R} (answer : Result (Unit {0}) (Cause ValueFault))
    (result : Result (Unit {0}) (Cause RecordFault)) (x : A) → reported result ≡ plain answer
    → Reads remaining errors lent S old new (written answer x)
    → Reads remaining errors lent (Seen Ok S) old new (reported (written result x))
reads_plain_in {remaining = remaining} {errors = errors} {lent = lent} {S = S} {old = old} {new = new} answer result x e
    p =
    subst (Reads remaining errors lent (Seen Ok S) old new) (sym (reported_written answer result x e))
    (reads_plain (written answer x) p)

-- if a rule is breached, no bytes that agree spell a value
pub reads_denies : {R A : Type 0} {remaining : R → Option (List ℕ)} {errors : R → ℕ} {lent : R → List GName}
    {S : Spelling (Result A RecordRule)} {old new : Input R}
    (r : Result (Result A RecordRule) (Cause ValueFault))
    → IsCode S → Reads remaining errors lent S old new r → Denies remaining S old r
reads_denies (Ok (Ok y)) code p = record { none = λ live xs k. tt }
reads_denies {S = S} {old = old} (Ok (Err j)) code p =
    record {
      none = λ live xs k x b q agree. let h : Ok (Err j) ≡ Ok (Ok x) =
          front_only (S (input_profile old)) xs _ (Ok (Err j))
          (Ok (Ok x)) (code.free (input_profile old)) (p.answers live xs k).0 b q agree in cc;
    }
reads_denies (Err OutOfMemory) code p = record { none = λ live xs k. tt }
reads_denies {S = S} {old = old} (Err (Breach f)) code p =
    record {
      none = λ live xs k rule x. let q = (p.answers live xs k).breached rule in
          breached_none (S (input_profile old)) xs q.count f (Ok x) (code.free (input_profile old)) q.front;
    }

-- a rule that is tested before more is read
pub reads_must_stop : {R A B : Type 0} {remaining : R → Option (List ℕ)} {errors : R → ℕ} {lent : R → List GName}
    (b : Bool) (x : A) (k : RecordRule) (T : A → Spelling (Result B RecordRule))
    {old : Input R} (e : RecordFault)
    → ((y : A) → IsCode (T y)) → has_failed old ≡ false → of_fault {A = A} e ≡ Ok (obeyed b x k)
    → Reads remaining errors lent (AndThen (Must b x k) T) old old (of_fault e)
reads_must_stop {remaining = remaining} {errors = errors} {lent = lent} b x k T {old = old} e can live h =
    reads_stop T e can (subst (λ r. Reads remaining errors lent (Must b x k) old old r) (sym h)
    (reads_nothing (obeyed b x k) live))

pub reads_must_go : {R A B : Type 0} {remaining : R → Option (List ℕ)} {errors : R → ℕ} {lent : R → List GName}
    (b : Bool) (x : A) (k : RecordRule) (T : A → Spelling (Result B RecordRule))
    {old new : Input R} {y : A} {r : Result (Result B RecordRule) (Cause ValueFault)}
    → has_failed old ≡ false → reported_breach (Ok y) ≡ Ok (obeyed b x k) → Reads remaining errors lent (T y) old new r
    → Reads remaining errors lent (AndThen (Must b x k) T) old new r
reads_must_go {remaining = remaining} {errors = errors} {lent = lent} b x k T {old = old} live h p =
    reads_go T (subst (λ r. Reads remaining errors lent (Must b x k) old old r) (sym h)
    (reads_nothing (obeyed b x k) live)) p
