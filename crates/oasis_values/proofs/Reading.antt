-- Calls one after another: what two of them say together, and how a failed one ends the whole.
use Rattle.std.proofs.Common.{◌≡◌, ◌≢◌, ℕ, ◌+◌, ◌-◌, ◌≤◌, true, false, List, [], ◌++◌, length, take}
use Rattle.std.proofs.Common.{drop, Some, Result, Ok, Err, refl, sym, ap, ◌∙◌, subst, arith, append_assoc}
use Rattle.std.proofs.Common.{length-append, drop-drop}
use Rattle.std.proofs.Math.Seq.{drop-append_seam, take-append-add}
use Rattle.std.specs.Prelude.{Option}
use Rattle.std.specs.Borrow.{GName}
use Rattle.lvl_io.specs.Bytes.{CountsFailure}
use Rattle.lvl_io.specs.Spelling.{FirstBytesSay, IsBegun, CanSay, Then as ThenAlways}
use Rattle.lvl_io.proofs.Spelling.{then_begun, then_goes_on, then_both, then_breached, breached_none}
use Rattle.lvl_refusal.specs.declared.Cause.{Cause}
use Rattle.lvl_refusal.specs.declared.Cause.TheVariants.{Breach, OutOfMemory}
use Rattle.lvl_profile.specs.declared.profile.Profile.{Profile}
use Rattle.oasis_values.specs.Faults.{is_rule, is_read_fault, reader_failed}
use Rattle.oasis_values.specs.Input.{input_offset, has_failed, input_profile, input_reader, room_left}
use Rattle.std.specs.Io.KnownBytes.{prepend_known}
use Rattle.oasis_values.specs.Known.{Allowed, Known, Seen}
use Rattle.oasis_values.specs.inside.Stopped.{HasStopped}
use Rattle.oasis_values.specs.Reads.{Fails, Answers, bytes_had, Reads, Refutes}
use Rattle.lvl_profile.specs.declared.limits.Limits.{Limits}
use Rattle.oasis_values.specs.Spelling.{Spelling, Gives, Then}
use Rattle.oasis_values.proofs.Codes.{IsCode, gives_code}
use Rattle.oasis_values.specs.declared.fault.ValueFault.{ValueFault}
use Rattle.oasis_values.specs.declared.fault.ValueFault.TheVariants.{Truncated, TooLong, Read, Failed}
use Rattle.oasis_values.specs.declared.input.Input.{Input}

-- the bytes after those at the front
pub front_rest : {A : Type 0} (S : List ℕ → A → Type 0) (xs : List ℕ) (n : ℕ) (x : A) (f : FirstBytesSay S xs n x)
    → drop n xs ≡ f.rest
front_rest S xs n x f =
    ap (λ k. drop k xs) (sym f.count) ∙ ap (drop (length f.bytes)) f.whole ∙ drop-append_seam f.bytes f.rest

-- a fault of the first is a fault of the whole
pub fails_first : {A B : Type 0} (S : List ℕ → Result A ValueFault → Type 0)
    (T : A → List ℕ → Result B ValueFault → Type 0) (room had : ℕ) (xs : List ℕ) (f : ValueFault)
    → ((x : A) → CanSay (T x)) → Fails S room had xs f → Fails (ThenAlways S T) room had xs f
fails_first S T room had xs f can p =
    record {
      truncated = λ e. let q = p.truncated e in (q.0, then_begun S T xs q.1 can);
      too_long = λ e. let q = p.too_long e in (q.0, q.1, then_begun S T (take room xs) q.2 can);
      unread = λ e. let q = p.unread e in (q.0, then_begun S T (take had xs) q.1 can);
      breached = λ e.
          let q = p.breached e in
          record {
            count = q.count;
            within = q.within;
            seen = q.seen;
            front =
                record {
                  bytes = q.front.bytes;
                  rest = q.front.rest;
                  says = then_breached S T q.front.bytes f q.front.says;
                  whole = q.front.whole;
                  count = q.front.count;
                };
          };
    }

-- a value of the first, and then what the second says after it
pub front_second : {A B : Type 0} (S : List ℕ → Result A ValueFault → Type 0)
    (T : A → List ℕ → Result B ValueFault → Type 0) (xs : List ℕ) (n m : ℕ) (x : A) (r : Result B ValueFault)
    → FirstBytesSay S xs n (Ok x) → FirstBytesSay (T x) (drop n xs) m r → FirstBytesSay (ThenAlways S T) xs (n + m) r
front_second S T xs n m x r p q =
    let rest : p.rest ≡ q.bytes ++ q.rest = sym (front_rest S xs n (Ok x) p) ∙ q.whole in
    record {
      bytes = p.bytes ++ q.bytes;
      rest = q.rest;
      says = then_both S T p.bytes q.bytes x r p.says q.says;
      whole = p.whole ∙ ap (λ l. p.bytes ++ l) rest ∙ sym (append_assoc p.bytes q.bytes q.rest);
      count = omega (arith, length-append p.bytes q.bytes, p.count, q.count);
    }

take_past : {A : Type 0} (S : List ℕ → A → Type 0) (xs : List ℕ) (n room : ℕ) (x : A) (p : FirstBytesSay S xs n x)
    → n ≤ room → p.bytes ++ take (room - n) (drop n xs) ≡ take room xs
take_past S xs n room x p h =
    let whole : length p.bytes + (room - n) ≡ room = omega (arith, p.count) in
    ap (λ l. p.bytes ++ take (room - n) l) (front_rest S xs n x p)
    ∙ sym (take-append-add p.bytes p.rest (room - n))
    ∙ ap (λ k. take k (p.bytes ++ p.rest)) whole
    ∙ ap (take room) (sym p.whole)

-- a fault of the second is a fault of the whole
pub fails_second : {A B : Type 0} (S : List ℕ → Result A ValueFault → Type 0)
    (T : A → List ℕ → Result B ValueFault → Type 0) (room n had : ℕ) (xs : List ℕ) (x : A) (f : ValueFault)
    → FirstBytesSay S xs n (Ok x) → n ≤ room → Fails (T x) (room - n) had (drop n xs) f
    → Fails (ThenAlways S T) room (n + had) xs f
fails_second S T room n had xs x f p h q =
    let whole : p.bytes ++ drop n xs ≡ xs = ap (λ l. p.bytes ++ l) (front_rest S xs n (Ok x) p) ∙ sym p.whole in
    let len : n + length (drop n xs) ≡ length xs =
    omega (arith, ap length whole, length-append p.bytes (drop n xs), p.count) in
    record {
      truncated = λ e.
          let t = q.truncated e in (
            omega (arith, t.0),
            subst (IsBegun (ThenAlways S T)) whole
                (then_goes_on S T p.bytes (drop n xs) x p.says t.1),
          );
      too_long = λ e.
          let t = q.too_long e in
          let goes_on = then_goes_on S T p.bytes (take (room - n) (drop n xs)) x p.says t.2 in
          let past = take_past S xs n room (Ok x) p h in
          (omega (arith, t.0), omega (arith, t.1), subst (IsBegun (ThenAlways S T)) past goes_on);
      unread = λ e.
          let t = q.unread e in
          let goes_on = then_goes_on S T p.bytes (take had (drop n xs)) x p.says t.1 in
          let past = take_past S xs n (n + had) (Ok x) p (omega arith) in
          let left : (n + had) - n ≡ had = omega arith in
          let same = ap (λ k. p.bytes ++ take k (drop n xs)) (sym left) ∙ past in
          (omega (arith, t.0), subst (IsBegun (ThenAlways S T)) same goes_on);
      breached = λ e.
          let t = q.breached e in
          record {
            count = n + t.count;
            within = omega (arith, t.within);
            seen = omega (arith, t.seen);
            front = front_second S T xs n t.count x (Err f) p t.front;
          };
    }

-- the same error as a result of another type
abbrev pub err_as : {A : Type 0} (B : Type 0) → Result A (Cause ValueFault) → Result B (Cause ValueFault)
err_as B (Err e) = Err e
err_as B (Ok x) = Err OutOfMemory

-- a call that fails ends the whole
pub reads_fault : {R A B : Type 0} {remaining : R → Option (List ℕ)} {errors : R → ℕ} {lent : R → List GName}
    {S : Spelling A} (T : A → Spelling B) {old new : Input R} {e : Cause ValueFault}
    → ((x : A) (i : Profile) → CanSay (T x i)) → Reads remaining errors lent S old new (Err e)
    → Reads remaining errors lent (Then S T) old new (Err e)
reads_fault {A = A} {B = B} {S = S} T {old = old} {new = new} {e = Breach f} can p =
    let i = input_profile old in
    record {
      again = λ h. ap (err_as B) (p.again h);
      fresh = λ h k. p.fresh h (ap (err_as A) k);
      answers = λ h xs k. fails_first (S i) (λ x. T x i) (room_left old) (bytes_had old new) xs f
          (λ x. can x i) (p.answers h xs k);
      left = p.left;
      forward = p.forward;
      profiles = p.profiles;
      failed = p.failed;
      counted = p.counted;
      same = p.same;
    }
reads_fault {A = A} {B = B} {S = S} T {old = old} {e = OutOfMemory} can p =
    record {
      again = λ h. ap (err_as B) (p.again h);
      fresh = λ h k. p.fresh h (ap (err_as A) k);
      answers = λ h xs k. tt;
      left = p.left;
      forward = p.forward;
      profiles = p.profiles;
      failed = p.failed;
      counted = p.counted;
      same = p.same;
    }

pub reads_err : {R A B : Type 0} {remaining : R → Option (List ℕ)} {errors : R → ℕ} {lent : R → List GName}
    {S : Spelling A} (T : A → Spelling B) {old new : Input R} {e : Cause ValueFault}
    → ((x : A) → IsCode (T x)) → Reads remaining errors lent S old new (Err e)
    → Reads remaining errors lent (Then S T) old new (Err e)
reads_err T can p = reads_fault T (λ x. (can x).said) p

answers_second : {A B : Type 0} (S : List ℕ → Result A ValueFault → Type 0)
    (T : A → List ℕ → Result B ValueFault → Type 0) (room n had m : ℕ) (xs : List ℕ) (x : A)
    (r : Result B (Cause ValueFault)) → FirstBytesSay S xs n (Ok x) → n ≤ room
    → Answers (T x) (room - n) had m (drop n xs) r → Answers (ThenAlways S T) room (n + had) (n + m) xs r
answers_second S T room n had m xs x (Ok y) p h q = (front_second S T xs n m x (Ok y) p q.0, omega (arith, q.1))
answers_second S T room n had m xs x (Err OutOfMemory) p h q = tt
answers_second S T room n had m xs x (Err (Breach f)) p h q = fails_second S T room n had xs x f p h q

-- a call that returned a value, and then what the next call returned
pub reads_then : {R A B : Type 0} {remaining : R → Option (List ℕ)} {errors : R → ℕ} {lent : R → List GName}
    {S : Spelling A} (T : A → Spelling B) {old mid new : Input R} {x : A} {r : Result B (Cause ValueFault)}
    → Reads remaining errors lent S old mid (Ok x) → Reads remaining errors lent (T x) mid new r
    → Reads remaining errors lent (Then S T) old new r
reads_then {errors = errors} {S = S} T {old = old} {mid = mid} {new = new} {x = x} {r = r} p q =
    let i = input_profile old in
    let n = input_offset mid - input_offset old in
    let m = input_offset new - input_offset mid in
    let later = bytes_had mid new in
    let all : n + m ≡ input_offset new - input_offset old = omega (arith, p.forward, q.forward) in
    let had : n + later ≡ bytes_had old new = omega (arith, p.forward, q.forward) in
    let room : room_left mid ≡ room_left old - n =
    ap (λ (i : Profile). i.limits.file - input_offset mid) p.profiles ∙ omega (arith, p.forward) in
    record {
      again = λ h. absurd (let k = p.again h in cc);
      fresh = λ h. q.fresh p.failed;
      answers = λ h xs k.
          let a = p.answers h xs k in
          let b = subst (λ g. Answers (T x g) (room_left mid) later m (drop n xs) r) p.profiles
          (q.answers p.failed (drop n xs) (p.left xs k)) in
          let both = answers_second (S i) (λ y. T y i) (room_left old) n later m xs x r a.0 a.1
          (subst (λ j. Answers (T x i) j later m (drop n xs) r) room b) in
          subst (λ j. Answers (Then S T i) (room_left old) (bytes_had old new) j xs r) all
          (subst (λ j. Answers (Then S T i) (room_left old) j (n + m) xs r) had both);
      left = λ xs k. q.left (drop n xs) (p.left xs k)
          ∙ ap Some (drop-drop m n xs ∙ ap (λ i. drop i xs) (omega (arith, all)));
      forward = omega (arith, p.forward, q.forward);
      profiles = q.profiles ∙ p.profiles;
      failed = q.failed;
      counted = subst (λ i. CountsFailure i (errors (input_reader new)) (reader_failed r)) p.counted q.counted;
      same = q.same ∙ p.same;
    }

drop_none : (xs : List ℕ) (n m : ℕ) → n ≡ m → xs ≡ drop (n - m) xs
drop_none xs n m e = ap (λ i. drop i xs) (let z : 0 ≡ n - m = omega arith in z)

-- a value that the limits of the input allow
pub reads_allowed : {R A : Type 0} {remaining : R → Option (List ℕ)} {errors : R → ℕ} {lent : R → List GName}
    {old new : Input R} {r : Result A (Cause ValueFault)} (g : Limits → Option A) (f : ValueFault)
    → Reads remaining errors lent (Known (g (input_profile old).limits) f) old new r
    → Reads remaining errors lent (Allowed g f) old new r
reads_allowed g f p =
    record {
      again = p.again;
      fresh = p.fresh;
      answers = p.answers;
      left = p.left;
      forward = p.forward;
      profiles = p.profiles;
      failed = p.failed;
      counted = p.counted;
      same = p.same;
    }

-- nothing is read
pub reads_nothing : {R A : Type 0} {remaining : R → Option (List ℕ)} {errors : R → ℕ} {lent : R → List GName}
    {old : Input R} (x : A)
    → has_failed old ≡ false → Reads remaining errors lent (Gives (Ok x)) old old (Ok x)
reads_nothing {old = old} x live =
    let none : 0 ≡ input_offset old - input_offset old = omega arith in
    record {
      again = λ h. absurd (let k : true ≡ false = sym h ∙ live in cc);
      fresh = λ h k. cc;
      answers = λ h xs k. (
        record { bytes = []; rest = xs; says = (refl, refl); whole = refl; count = none },
        omega arith,
      );
      left = λ xs k. k ∙ ap Some (drop_none xs (input_offset old) (input_offset old) refl);
      forward = omega arith;
      profiles = refl;
      failed = live;
      counted = refl;
      same = refl;
    }

rule_not : (f h : ValueFault) → is_rule f ≡ true → is_rule h ≡ false → f ≡ h → ⊥
rule_not f h rule other e = let k : true ≡ false = sym rule ∙ ap is_rule e ∙ other in cc

pub rule_live : (f : ValueFault) → is_rule f ≡ true → f ≢ Failed
rule_live f rule = λ e. rule_not f Failed rule refl e

rule_read : (f : ValueFault) → is_rule f ≡ true → false ≡ is_read_fault f
rule_read Truncated r = refl
rule_read TooLong r = refl
rule_read Failed r = refl
rule_read Read r = absurd (let k : false ≡ true = r in cc)
rule_read f r = refl

-- g of what was read
pub reads_seen : {R A B : Type 0} {remaining : R → Option (List ℕ)} {errors : R → ℕ} {lent : R → List GName}
    {S : Spelling A} (g : A → B) {old new : Input R} {x : A}
    → Reads remaining errors lent S old new (Ok x) → Reads remaining errors lent (Seen g S) old new (Ok (g x))
reads_seen g {x = x} p = reads_then (λ y. Gives (Ok (g y))) p (reads_nothing (g x) p.failed)

pub reads_seen_err : {R A B : Type 0} {remaining : R → Option (List ℕ)} {errors : R → ℕ} {lent : R → List GName}
    {S : Spelling A} (g : A → B) {old new : Input R} {e : Cause ValueFault}
    → Reads remaining errors lent S old new (Err e) → Reads remaining errors lent (Seen g S) old new (Err e)
reads_seen_err g p = reads_err (λ y. Gives (Ok (g y))) (λ y. gives_code) p

-- a value was read, and then an allocation failed
pub reads_stopped : {R A B : Type 0} {remaining : R → Option (List ℕ)} {errors : R → ℕ} {lent : R → List GName}
    {S : Spelling A} {T : Spelling B} {old now new : Input R} {x : A}
    → has_failed old ≡ false → Reads remaining errors lent S old now (Ok x) → HasStopped now new
    → Reads remaining errors lent T old new (Err OutOfMemory)
reads_stopped {remaining = remaining} {errors = errors} {lent = lent} {old = old} {now = now} {new = new} live p stop =
    record {
      again = λ h. absurd (let k : true ≡ false = sym h ∙ live in cc);
      fresh = λ h k. cc;
      answers = λ h xs k. tt;
      left = λ xs k. ap (λ l. prepend_known l (remaining new.reader)) stop.ahead
          ∙ ap (λ r. prepend_known now.ahead (remaining r)) stop.reader ∙ p.left xs k
          ∙ ap (λ i. Some (drop (i - input_offset old) xs)) (sym stop.offset);
      forward = omega (arith, p.forward, stop.offset);
      profiles = stop.profile ∙ p.profiles;
      failed = stop.failed;
      counted = subst (λ r. CountsFailure (errors (input_reader old)) (errors r) false) (sym stop.reader) p.counted;
      same = ap lent stop.reader ∙ p.same;
    }

-- a value was read, and it breaches a rule
pub reads_refused : {R A : Type 0} {remaining : R → Option (List ℕ)} {errors : R → ℕ} {lent : R → List GName}
    {old new : Input R} (f : ValueFault)
    → has_failed old ≡ false → has_failed new ≡ true → is_rule f ≡ true → new.ahead ≡ old.ahead
    → new.offset ≡ old.offset → new.profile ≡ old.profile → new.reader ≡ old.reader
    → Reads {A = A} remaining errors lent (Gives (Err f)) old new (Err (Breach f))
reads_refused {remaining = remaining} {errors = errors} {lent = lent} {old = old} {new = new}
    f live failed rule ahead offset profile reader =
    let none : 0 ≡ input_offset new - input_offset old = omega (arith, offset) in
    record {
      again = λ h. absurd (let k : true ≡ false = sym h ∙ live in cc);
      fresh = λ h k. rule_live f rule (let e : f ≡ Failed = cc in e);
      answers = λ h xs k.
          record {
            truncated = λ e. absurd (rule_not f Truncated rule refl e);
            too_long = λ e. absurd (rule_not f TooLong rule refl e);
            unread = λ e. absurd (rule_not f Read rule refl e);
            breached = λ e. record {
              count = 0;
              within = omega arith;
              seen = omega arith;
              front = record { bytes = []; rest = xs; says = (refl, refl); whole = refl; count = omega arith };
            };
          };
      left = λ xs k. ap (λ l. prepend_known l (remaining new.reader)) ahead
          ∙ ap (λ r. prepend_known old.ahead (remaining r)) reader ∙ k ∙ ap (λ i. Some (drop i xs)) none;
      forward = omega (arith, offset);
      profiles = profile;
      failed = failed;
      counted = subst (λ b. CountsFailure (errors old.reader) (errors new.reader) b) (rule_read f rule)
          (ap errors reader);
      same = ap lent reader;
    }

pub reads_seen_as : {R A B : Type 0} {remaining : R → Option (List ℕ)} {errors : R → ℕ} {lent : R → List GName}
    {S : Spelling A} (g : A → B) {old new : Input R} {x : A} {y : B}
    → Reads remaining errors lent S old new (Ok x) → g x ≡ y → Reads remaining errors lent (Seen g S) old new (Ok y)
reads_seen_as {remaining = remaining} {errors = errors} {lent = lent} {S = S} g {old = old} {new = new} p e =
    subst (λ z. Reads remaining errors lent (Seen g S) old new (Ok z)) e (reads_seen g p)

-- what is read by one of several cases
pub reads_case : {R A K : Type 0} {remaining : R → Option (List ℕ)} {errors : R → ℕ} {lent : R → List GName}
    {old new : Input R} {r : Result A (Cause ValueFault)}
    (T : K → Spelling A) (k j : K) → k ≡ j → Reads remaining errors lent (T j) old new r
    → Reads remaining errors lent (T k) old new r
reads_case {remaining = remaining} {errors = errors} {lent = lent} {old = old} {new = new} {r = r} T k j e p =
    subst (λ i. Reads remaining errors lent (T i) old new r) (sym e) p

-- if a rule is breached, no bytes that agree spell a value
pub reads_refutes : {R A : Type 0} {remaining : R → Option (List ℕ)} {errors : R → ℕ} {lent : R → List GName}
    {S : Spelling A} {old new : Input R} {r : Result A (Cause ValueFault)}
    → IsCode S → Reads remaining errors lent S old new r → Refutes remaining S old r
reads_refutes {r = Ok y} code p = record { none = λ live xs k. tt }
reads_refutes {r = Err OutOfMemory} code p = record { none = λ live xs k. tt }
reads_refutes {S = S} {old = old} {r = Err (Breach f)} code p =
    record {
      none = λ live xs k rule x. let q = (p.answers live xs k).breached rule in
          breached_none (S (input_profile old)) xs q.count f x (code.free (input_profile old)) q.front;
    }
