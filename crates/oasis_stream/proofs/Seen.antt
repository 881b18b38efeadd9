-- The bytes that a call has read: those that were taken, and those in hand. What they say doesn't depend on what comes
-- after them.
use Rattle.std.proofs.Common.{◌≡◌, ℕ, ◌+◌, ◌-◌, ◌<◌, ◌≤◌, List, ◌++◌, length, take, drop, Some, sym, ap, ◌∙◌, subst}
use Rattle.std.proofs.Common.{false}
use Rattle.std.proofs.Common.{append_assoc, arith, length-append, length-take}
use Rattle.std.proofs.Math.Seq.{take-add, take-append-add, take-append_seam}
use Rattle.std.proofs.lemmas.List.{take-append-drop, take-append-le, take-take}
use Rattle.std.specs.Prelude.{Option}
use Rattle.std.specs.Prelude.{Result}
use Rattle.std.specs.Borrow.{GName}
use Rattle.lvl_io.specs.Spelling.{FirstBytesSay}
use Rattle.lvl_io.proofs.Known.{known_parts}
use Rattle.lvl_refusal.specs.declared.Cause.{Cause}
use Rattle.lvl_profile.specs.declared.profile.Profile.{Profile}
use Rattle.oasis_values.specs.Input.{bytes_left, has_failed, input_profile, input_reader, input_offset}
use Rattle.oasis_values.specs.Reads.{Answers, Reads, bytes_had}
use Rattle.oasis_values.specs.Spelling.{Spelling}
use Rattle.oasis_values.specs.declared.fault.ValueFault.{ValueFault}
use Rattle.oasis_values.specs.declared.input.Input.{Input}

-- the first `had` bytes were read, and the others are left
pub record IsSeen (ys : List ℕ) (had : ℕ) (left : Option (List ℕ)) : Type 0 where
  pub rest : List ℕ
  pub parts : ys ≡ take had ys ++ rest
  pub left_is : left ≡ Some rest

pub law_seen : {R A : Type 0} {remaining : R → Option (List ℕ)} {errors : R → ℕ} {lent : R → List GName}
    {S : Spelling A} {old new : Input R} {r : Result A (Cause ValueFault)} (ys : List ℕ)
    → Reads remaining errors lent S old new r → bytes_left remaining old ≡ Some ys
    → IsSeen ys (bytes_had old new) (remaining (input_reader new))
law_seen {remaining = remaining} {old = old} {new = new} ys p known =
    let n = input_offset new - input_offset old in
    let q = known_parts new.ahead (remaining new.reader) (drop n ys) (p.left ys known) in
    let hand : take (length new.ahead) (drop n ys) ≡ new.ahead = ap (take (length new.ahead)) (sym q.2)
    ∙ take-append_seam new.ahead q.0 in
    record {
      rest = q.0;
      parts = sym (take-append-drop n ys) ∙ ap (λ l. take n ys ++ l) (sym q.2)
          ∙ sym (append_assoc (take n ys) new.ahead q.0)
          ∙ ap (λ l. (take n ys ++ l) ++ q.0) (sym hand) ∙ ap (λ l. l ++ q.0) (sym (take-add n (length new.ahead) ys));
      left_is = q.1;
    }

-- what the first of the bytes read say
pub front_seen : {A : Type 0} (S : List ℕ → A → Type 0) (ys : List ℕ) (had n : ℕ) (x : A) → FirstBytesSay S ys n x
    → n ≤ had
    → (more : List ℕ) → FirstBytesSay S (take had ys ++ more) n x
front_seen S ys had n x f fits more =
    let long : length f.bytes + (had - n) ≡ had = omega (arith, f.count) in
    let first : take had ys ≡ f.bytes ++ take (had - n) f.rest =
    ap (λ k. take k ys) (sym long) ∙ ap (take (length f.bytes + (had - n))) f.whole ∙ take-append-add f.bytes f.rest
    (had - n) in
    record {
      bytes = f.bytes;
      rest = take (had - n) f.rest ++ more;
      says = f.says;
      whole = ap (λ l. l ++ more) first ∙ append_assoc f.bytes (take (had - n) f.rest) more;
      count = f.count;
    }

-- the bytes within the limit, if one more was read
pub room_seen : (ys : List ℕ) (had room : ℕ) (more : List ℕ) → room < length ys → room < had
    → (room < length (take had ys ++ more)) × (take room (take had ys ++ more) ≡ take room ys)
room_seen ys had room more long read =
    let enough : room < length (take had ys) = omega (arith, length-take had ys) in (
      omega (arith, length-append (take had ys) more),
      take-append-le room (take had ys) more (omega (arith, enough))
          ∙ take-take room had ys (omega (arith, read)),
    )

-- what a result says, if the input is read under this profile
pub answers_under : {R A : Type 0} {remaining : R → Option (List ℕ)} {errors : R → ℕ} {lent : R → List GName}
    {S : Spelling A} {old new : Input R} {r : Result A (Cause ValueFault)} (profile : Profile)
    → input_profile old ≡ profile → Reads remaining errors lent S old new r → has_failed old ≡ false → (xs : List ℕ)
    → bytes_left remaining old ≡ Some xs
    → Answers (S profile) (profile.limits.file - input_offset old) (bytes_had old new)
    (input_offset new - input_offset old) xs r
answers_under {S = S} {old = old} {new = new} {r = r} profile under p live xs k =
    let n = input_offset new - input_offset old in
    subst (λ (i : Profile). Answers (S i) (i.limits.file - input_offset old) (bytes_had old new) n xs r) under
    (p.answers live xs k)
