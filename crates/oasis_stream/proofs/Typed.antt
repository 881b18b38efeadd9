-- The next record is read by its id, and then by its type.
use Rattle.std.proofs.Common.{◌≡◌, ℕ, Bool, true, false, if◌then◌else◌, not, ◌&&◌, nat_lt, length, List, [], Result, Ok}
use Rattle.std.proofs.Common.{Err, refl, sym, ap, subst, ◌-◌}
use Rattle.std.specs.Prelude.{Option}
use Rattle.std.specs.Borrow.{GName}
use Rattle.lvl_refusal.specs.declared.Cause.{Cause}
use Rattle.lvl_refusal.specs.declared.Cause.TheVariants.{Breach, OutOfMemory}
use Rattle.lvl_profile.specs.declared.profile.Profile.{Profile}
use Rattle.oasis_values.specs.Input.{input_profile, room_left, input_offset}
use Rattle.oasis_values.specs.Known.{Seen}
use Rattle.oasis_values.specs.Numbers.{IsUnsigned}
use Rattle.oasis_values.specs.Reads.{Reads, bytes_had, Answers}
use Rattle.oasis_values.specs.Spelling.{Spelling, Gives}
use Rattle.oasis_values.specs.declared.fault.ValueFault.{ValueFault}
use Rattle.oasis_values.specs.declared.input.Input.{Input}
use Rattle.oasis_values.proofs.Reading.{reads_then, reads_nothing, reads_seen, reads_seen_err, reads_fault}
use Rattle.oasis_records.specs.Records.{record_type}
use Rattle.oasis_records.specs.Magic.{IsMagic}
use Rattle.oasis_records.specs.Rules.{reported, reported_breach, written}
use Rattle.oasis_records.specs.Sizes.{Sized}
use Rattle.oasis_records.specs.declared.fault.RecordFault.{RecordFault}
use Rattle.oasis_records.specs.declared.fault.RecordFault.TheVariants.{Value, Rule}
use Rattle.oasis_records.specs.declared.fault.RecordRule.{RecordRule}
use Rattle.oasis_records.specs.declared.measured.Measured.{Measured}
use Rattle.oasis_records.specs.declared.record.Record.{Record}
use Rattle.oasis_records.specs.declared.record_type.RecordType.{RecordType}
use Rattle.oasis_stream.specs.Items.{Item}
use Rattle.lvl_profile.specs.declared.limits.Limits.{Limits}
use Rattle.oasis_stream.specs.Order.{at_end, cells_in, opens_cell, mixes, is_expected_in, allowed, type_after}
use Rattle.oasis_stream.specs.Next.{of_magic, of_record, IsTyped, IsNext, IsItem, IsTypedAfter}
use Rattle.oasis_stream.specs.Reported.{of_kind, reported_record, of_fault, reported_magic, of_magic_fault}
use Rattle.oasis_stream.specs.declared.fault.NameRule.TheVariants.{Mixed}
use Rattle.oasis_stream.specs.declared.fault.OasisKind.{OasisKind}
use Rattle.oasis_stream.specs.declared.fault.OasisKind.TheVariants.{Unexpected, Name, TooManyCells}
use Rattle.oasis_stream.proofs.Items.{typed_said}

-- a record that was read, as an item of the file
pub reads_recorded : {R : Type 0} {remaining : R → Option (List ℕ)} {errors : R → ℕ} {lent : R → List GName}
    {S : Spelling (Result Record RecordRule)} {old new : Input R}
    (r : Result (Unit {0}) (Cause RecordFault)) (x : Record)
    → Reads remaining errors lent S old new (reported (written r x))
    → Reads remaining errors lent (Seen of_record S) old new (reported_record (written (of_fault r) x))
reads_recorded (Ok u) x p = reads_seen of_record p
reads_recorded (Err OutOfMemory) x p = reads_seen_err of_record p
reads_recorded (Err (Breach (Value f))) x p = reads_seen_err of_record p
reads_recorded (Err (Breach (Rule k))) x p = reads_seen of_record p

-- the rule that an id breaches isn't one of values
abbrev IsJudged : Result RecordType OasisKind → Type 0
IsJudged (Ok t) = Unit {0}
IsJudged (Err k) = of_kind k ≡ Ok (Err k)

judged_if : (b : Bool) (x y : Result RecordType OasisKind) → IsJudged x → IsJudged y → IsJudged (if b then x else y)
judged_if true x y p q = p
judged_if false x y p q = q

judged_allowed : (limits : Limits) (rs : List Record) (t : Result RecordType RecordRule)
    → IsJudged (allowed limits rs t)
judged_allowed limits rs (Ok t) =
    let full = opens_cell t && not (nat_lt (length (cells_in rs)) limits.cells) in
    judged_if (mixes rs t) (Err (Name Mixed)) (if full then Err TooManyCells else Ok t) refl
    (judged_if full (Err TooManyCells) (Ok t) refl tt)
judged_allowed limits rs (Err k) = refl

judged : (inside : Bool) (profile : Profile) (rs : List Record) (id : ℕ)
    → IsJudged (type_after inside profile rs id)
judged inside profile rs id =
    let t = record_type profile id in
    judged_if (is_expected_in inside rs t) (allowed profile.limits rs t) (Err (Unexpected id))
    (judged_allowed profile.limits rs t) refl

-- the id couldn't be read
pub next_unread : {R : Type 0} {remaining : R → Option (List ℕ)} {errors : R → ℕ} {lent : R → List GName}
    (inside : Bool) (rs : List Record) {old new : Input R} {e : Cause ValueFault}
    → Reads remaining errors lent (Sized IsUnsigned) old new (Err e)
    → Reads remaining errors lent (IsNext inside rs) old new (Err e)
next_unread inside rs p = reads_fault (IsTypedAfter inside rs) (typed_said inside rs) p

-- a call that reads by one spelling reads by any other that is the same for what the input ignores
reads_by : {R A : Type 0} {remaining : R → Option (List ℕ)} {errors : R → ℕ} {lent : R → List GName}
    (S T : Spelling A) {old new : Input R} {r : Result A (Cause ValueFault)}
    → S (input_profile old) ≡ T (input_profile old) → Reads remaining errors lent T old new r
    → Reads remaining errors lent S old new r
reads_by S T {old = old} {new = new} {r = r} e p =
    record {
      again = p.again;
      fresh = p.fresh;
      answers = λ h xs k. subst (λ P. Answers P (room_left old) (bytes_had old new)
          (input_offset new - input_offset old) xs r)
          (sym e) (p.answers h xs k);
      left = p.left;
      forward = p.forward;
      profiles = p.profiles;
      failed = p.failed;
      counted = p.counted;
      same = p.same;
    }

-- the id breaches a rule
pub next_refused : {R : Type 0} {remaining : R → Option (List ℕ)} {errors : R → ℕ} {lent : R → List GName}
    (inside : Bool) (rs : List Record) {old new : Input R} (id : Measured) (k : OasisKind)
    → type_after inside (input_profile new) rs id.value ≡ Err k → Reads remaining errors lent (Sized IsUnsigned) old new (Ok id)
    → Reads remaining errors lent (IsNext inside rs) old new (of_kind k)
next_refused {remaining = remaining} {errors = errors} {lent = lent} inside rs {old = old} {new = new} id k e p =
    let j : of_kind k ≡ Ok (Err k) = subst IsJudged e (judged inside (input_profile new) rs id.value) in
    let none : Reads remaining errors lent (IsTypedAfter inside rs id) new new (Ok (Err k)) =
    reads_by (IsTypedAfter inside rs id) (Gives (Ok (Err k))) (ap (λ t. IsTyped (at_end rs) id.len t (input_profile new)) e)
    (reads_nothing (Err k) p.failed) in
    subst (λ r. Reads remaining errors lent (IsNext inside rs) old new r) (sym j) (reads_then (IsTypedAfter inside rs) p none)

-- the id gives the type
pub next_typed : {R : Type 0} {remaining : R → Option (List ℕ)} {errors : R → ℕ} {lent : R → List GName}
    (inside : Bool) (rs : List Record) {old mid new : Input R} (id : Measured) (t : RecordType) (b : Bool)
    {r : Result (Result Item OasisKind) (Cause ValueFault)}
    → type_after inside (input_profile mid) rs id.value ≡ Ok t → b ≡ at_end rs
    → Reads remaining errors lent (Sized IsUnsigned) old mid (Ok id)
    → Reads remaining errors lent (IsTyped b id.len (Ok t)) mid new r
    → Reads remaining errors lent (IsNext inside rs) old new r
next_typed {remaining = remaining} {errors = errors} {lent = lent} inside rs {mid = mid} {new = new} id t b {r = r} e h p q =
    let here : Reads remaining errors lent (IsTyped (at_end rs) id.len (Ok t)) mid new r =
    subst (λ i. Reads remaining errors lent (IsTyped i id.len (Ok t)) mid new r) h q in
    reads_then (IsTypedAfter inside rs) p
    (reads_by (IsTypedAfter inside rs id) (IsTyped (at_end rs) id.len (Ok t))
    (ap (λ i. IsTyped (at_end rs) id.len i (input_profile mid)) e) here)

-- the magic string that was read, as an item of the file
pub reads_first : {R : Type 0} {remaining : R → Option (List ℕ)} {errors : R → ℕ} {lent : R → List GName}
    {old new : Input R} (r : Result (Unit {0}) RecordFault)
    → Reads remaining errors lent IsMagic old new (reported_breach r)
    → Reads remaining errors lent (IsItem []) old new (reported_magic (of_magic_fault r))
reads_first (Ok u) p = reads_seen of_magic p
reads_first (Err (Value f)) p = reads_seen_err of_magic p
reads_first (Err (Rule k)) p = reads_seen of_magic p
