-- What is found at the front of known bytes, of which some are in hand.
use Rattle.std.proofs.Common.{◌≡◌, ◌≢◌, ℕ, ◌+◌, ◌-◌, ◌^◌, ◌<◌, ◌≤◌, true, false, List, [], ◌∷◌, ◌++◌, length, take}
use Rattle.std.proofs.Common.{drop, get_or, Some, Result, Ok, Err, refl, sym, ap, ◌∙◌, subst, arith}
use Rattle.std.proofs.Common.{append_assoc, length-append}
use Rattle.std.proofs.lemmas.List.{take-append-drop, length-take, take-append-le, take_all, drop-append-le}
use Rattle.std.specs.Prelude.{Option}
use Rattle.std.specs.Borrow.{GName}
use Rattle.lvl_io.specs.Bytes.{CountsFailure}
use Rattle.lvl_refusal.specs.declared.Cause.TheVariants.{Breach}
use Rattle.oasis_values.specs.Input.{in_hand, input_offset, has_failed, input_profile, room_left}
use Rattle.oasis_values.specs.declared.input.Input.{Input}
use Rattle.std.specs.Io.KnownBytes.{prepend_known}
use Rattle.lvl_io.specs.Known.{Stays}
use Rattle.lvl_io.specs.Spelling.{FirstBytesSay, IsBegun}
use Rattle.lvl_io.proofs.Known.{known_parts}
use Rattle.oasis_values.specs.Faults.{is_rule, is_read_fault}
use Rattle.oasis_values.specs.Numbers.{IsOneByte, groups, Continues, most_bytes, IsUnsigned}
use Rattle.oasis_values.specs.Reads.{Fails, bytes_had, Reads}
use Rattle.oasis_values.specs.inside.Leading.{IsStop, Stops}
use Rattle.oasis_values.specs.Spelling.{Spelling}
use Rattle.oasis_values.proofs.Integers.{continues_begun}
use Rattle.lvl_profile.specs.declared.profile.Profile.{Profile}
use Rattle.oasis_values.specs.declared.fault.ValueFault.{ValueFault}
use Rattle.oasis_values.specs.declared.fault.ValueFault.TheVariants.{Truncated, TooLong, Read, Failed}

-- what is at the front of the first bytes is at the front of all
pub front_more : {A : Type 0} (S : List ℕ → A → Type 0) (xs : List ℕ) (k n : ℕ) (x : A)
    → FirstBytesSay S (take k xs) n x
    → FirstBytesSay S xs n x
front_more S xs k n x f =
    record {
      bytes = f.bytes;
      rest = f.rest ++ drop k xs;
      says = f.says;
      whole = sym (take-append-drop k xs) ∙ ap (λ l. l ++ drop k xs) f.whole ∙ append_assoc f.bytes f.rest (drop k xs);
      count = f.count;
    }

-- another byte is missing while the bytes read are an unfinished beginning
pub stop_fails : {A : Type 0} (S : List ℕ → Result A ValueFault → Type 0) (n room had : ℕ) (xs : List ℕ)
    (f : ValueFault) → n ≤ room → IsStop f → Stops f n room had xs → IsBegun S (take n xs) → Fails S room had xs f
stop_fails S n room had xs Truncated h i s b =
    record {
      truncated = λ e. (omega (arith, s), subst (IsBegun S) (take_all n xs (omega (arith, s))) b);
      too_long = λ e. absurd (cc);
      unread = λ e. absurd (cc);
      breached = λ e. absurd (cc);
    }
stop_fails S n room had xs TooLong h i s b =
    record {
      truncated = λ e. absurd (cc);
      too_long = λ e. (
        omega (arith, s.0, s.1),
        omega (arith, s.0, s.2),
        subst (λ k. IsBegun S (take k xs)) (sym s.0) b,
      );
      unread = λ e. absurd (cc);
      breached = λ e. absurd (cc);
    }
stop_fails S n room had xs Read h i s b =
    record {
      truncated = λ e. absurd (cc);
      too_long = λ e. absurd (cc);
      unread = λ e. (omega (arith, s), subst (λ k. IsBegun S (take k xs)) (sym s) b);
      breached = λ e. absurd (cc);
    }
stop_fails S n room had xs f h i s b = absurd i

pub stop_live : (f : ValueFault) → IsStop f → f ≢ Failed
stop_live Truncated i = λ e. cc
stop_live TooLong i = λ e. cc
stop_live Read i = λ e. cc
stop_live f i = absurd i

-- what is at the front of the bytes in hand is at the front of all
pub front_known : {A : Type 0} (S : List ℕ → A → Type 0) (new : List ℕ) (b : Option (List ℕ)) (xs : List ℕ) (n : ℕ)
    (x : A) → prepend_known new b ≡ Some xs → FirstBytesSay S new n x → FirstBytesSay S xs n x
front_known S new b xs n x k f =
    let p = known_parts new b xs k in
    record {
      bytes = f.bytes;
      rest = f.rest ++ p.0;
      says = f.says;
      whole = sym p.2 ∙ ap (λ l. l ++ p.0) f.whole ∙ append_assoc f.bytes f.rest p.0;
      count = f.count;
    }

first_byte : (xs : List ℕ) → 0 < length xs → FirstBytesSay IsOneByte xs 1 (Ok (get_or xs 0 0))
first_byte [] h = absurd (omega arith)
first_byte (x ∷ xs) h = record { bytes = x ∷ []; rest = xs; says = refl; whole = refl; count = omega arith }

pub byte_front : (new : List ℕ) (b : Option (List ℕ)) (xs : List ℕ) (x : ℕ) → prepend_known new b ≡ Some xs
    → 0 < length new → x ≡ get_or new 0 0 → FirstBytesSay IsOneByte xs 1 (Ok x)
byte_front new b xs x k h e =
    subst (λ i. FirstBytesSay IsOneByte xs 1 (Ok i)) (sym e)
    (front_known IsOneByte new b xs 1 (Ok (get_or new 0 0)) k (first_byte new h))

pub byte_begun : IsBegun IsOneByte []
byte_begun = record { more = 0 ∷ []; value = Ok 0; short = omega arith; says = refl }

-- bytes in hand that continue begin an integer, and so do they as the first of all
pub hand_begun : (i : Profile) (new : List ℕ) (b : Option (List ℕ)) (xs : List ℕ) (k : ℕ)
    → prepend_known new b ≡ Some xs → k ≤ length new → Continues (take k new) → length (take k new) < most_bytes i
    → groups (take k new) < 2 ^ 64 → IsBegun (IsUnsigned i) (take k xs)
hand_begun i new b xs k e h c few fits =
    let p = known_parts new b xs e in
    let same : take k xs ≡ take k new = ap (take k) (sym p.2) ∙ take-append-le k new p.0 h in
    subst (IsBegun (IsUnsigned i)) (sym same) (continues_begun i (take k new) c few fits)

front_length : {A : Type 0} (S : List ℕ → A → Type 0) (xs : List ℕ) (n : ℕ) (x : A) → FirstBytesSay S xs n x
    → n ≤ length xs
front_length S xs n x f = omega (arith, f.count, ap length f.whole, length-append f.bytes f.rest)

-- the front is within the limit if it is found among the bytes within it
pub front_within : {A : Type 0} (S : List ℕ → A → Type 0) (xs : List ℕ) (k n : ℕ) (x : A)
    → FirstBytesSay S (take k xs) n x
    → (n ≤ k) × (n ≤ length xs)
front_within S xs k n x f =
    let l = front_length S (take k xs) n x f in
    (omega (arith, l, length-take {A = ℕ}), omega (arith, l, length-take {A = ℕ}))

-- a rule is breached
pub breach_fails : {A : Type 0} (S : List ℕ → Result A ValueFault → Type 0) (room had n : ℕ) (xs : List ℕ)
    (f : ValueFault) → is_rule f ≡ true → n ≤ room → n ≤ had → FirstBytesSay S xs n (Err f) → Fails S room had xs f
breach_fails S room had n xs f rule h seen front =
    record {
      truncated = λ e. absurd (let r = ap is_rule e in let k : true ≡ false = sym rule ∙ r in cc);
      too_long = λ e. absurd (let r = ap is_rule e in let k : true ≡ false = sym rule ∙ r in cc);
      unread = λ e. absurd (let r = ap is_rule e in let k : true ≡ false = sym rule ∙ r in cc);
      breached = λ e. record { count = n; within = h; seen = seen; front = front };
    }

known_dropped : (new : List ℕ) (b : Option (List ℕ)) (n : ℕ) (xs : List ℕ) → prepend_known new b ≡ Some xs
    → n ≤ length new → prepend_known (drop n new) b ≡ Some (drop n xs)
known_dropped new b n xs k h =
    let p = known_parts new b xs k in
    let e : drop n xs ≡ drop n new ++ p.0 = ap (drop n) (sym p.2) ∙ drop-append-le n new p.0 h in
    ap (prepend_known (drop n new)) p.1 ∙ ap Some (sym e)

-- a value was found, and its bytes were skipped
pub reads_found : {R A : Type 0} (remaining : R → Option (List ℕ)) (errors : R → ℕ) (lent : R → List GName)
    (S : Spelling A) (old new : Input R) (hand : List ℕ) (x : A) (n : ℕ)
    → has_failed old ≡ false → has_failed new ≡ false → new.ahead ≡ drop n hand → new.offset ≡ old.offset + n
    → new.profile ≡ old.profile
    → Stays (prepend_known old.ahead (remaining old.reader)) (prepend_known hand (remaining new.reader))
    → n ≤ length hand → n ≤ room_left old
    → ((xs : List ℕ) → prepend_known old.ahead (remaining old.reader) ≡ Some xs
    → FirstBytesSay (S (input_profile old)) xs n (Ok x)) → errors new.reader ≡ errors old.reader
    → lent new.reader ≡ lent old.reader
    → Reads remaining errors lent S old new (Ok x)
reads_found remaining errors lent S old new hand x n live lives ahead offset profile stays had within front counted
    same =
    let moved : n ≡ input_offset new - input_offset old = omega (arith, offset) in
    record {
      again = λ h. absurd (let k : true ≡ false = sym h ∙ live in cc);
      fresh = λ h k. cc;
      answers = λ h xs k. subst (λ i. FirstBytesSay (S (input_profile old)) xs i (Ok x) × (i ≤ room_left old)) moved
          (front xs k, within);
      left = λ xs k.
          ap (λ l. prepend_known l (remaining new.reader)) ahead
          ∙ known_dropped hand (remaining new.reader) n xs (stays xs k) had
          ∙ ap (λ i. Some (drop i xs)) moved;
      forward = omega (arith, offset);
      profiles = profile;
      failed = lives;
      counted = counted;
      same = same;
    }

-- a fault was found, and nothing was skipped
pub reads_stopped : {R A : Type 0} (remaining : R → Option (List ℕ)) (errors : R → ℕ) (lent : R → List GName)
    (S : Spelling A) (old new : Input R) (f : ValueFault)
    → has_failed old ≡ false → has_failed new ≡ true → new.offset ≡ old.offset → new.profile ≡ old.profile
    → Stays (prepend_known old.ahead (remaining old.reader)) (prepend_known new.ahead (remaining new.reader))
    → f ≢ Failed → ((xs : List ℕ) → prepend_known old.ahead (remaining old.reader) ≡ Some xs
    → Fails (S (input_profile old)) (room_left old) (in_hand new) xs f)
    → CountsFailure (errors old.reader) (errors new.reader) (is_read_fault f) → lent new.reader ≡ lent old.reader
    → Reads remaining errors lent S old new (Err (Breach f))
reads_stopped remaining errors lent S old new f live failed offset profile stays fresh fails counted same =
    let none : 0 ≡ input_offset new - input_offset old = omega (arith, offset) in
    let had : in_hand new ≡ bytes_had old new = omega (arith, offset) in
    record {
      again = λ h. absurd (let k : true ≡ false = sym h ∙ live in cc);
      fresh = λ h k. fresh (cc);
      answers = λ h xs k. subst (λ i. Fails (S (input_profile old)) (room_left old) i xs f) had (fails xs k);
      left = λ xs k. stays xs k ∙ ap (λ i. Some (drop i xs)) none;
      forward = omega (arith, offset);
      profiles = profile;
      failed = failed;
      counted = counted;
      same = same;
    }

pub hand_front : {A : Type 0} (S : List ℕ → A → Type 0) (new hand : List ℕ) (b : Option (List ℕ)) (xs : List ℕ)
    (k n : ℕ) (x : A) → hand ≡ new → prepend_known new b ≡ Some xs → FirstBytesSay S (take k hand) n x
    → FirstBytesSay S xs n x
hand_front S new hand b xs k n x e known f =
    front_known S new b xs n x known (subst (λ l. FirstBytesSay S l n x) e (front_more S hand k n x f))
