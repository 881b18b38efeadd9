-- What comes after END: the end of the input, or a byte that is refused.
use Rattle.std.proofs.Common.{◌≡◌, ℕ, ◌-◌, ◌<◌, true, false, List, [], ◌++◌, length, take, drop, Result, Ok, Err, refl}
use Rattle.std.proofs.Common.{sym, ap, ◌∙◌, subst, inl, arith, length-append}
use Rattle.std.proofs.lemmas.List.{append-nil, nil_from_length, take-append-drop}
use Rattle.std.specs.Prelude.{Option}
use Rattle.std.specs.Borrow.{GName}
use Rattle.lvl_io.specs.Spelling.{IsBegun}
use Rattle.lvl_grammar.specs.Front.{SpellsWhole, IsFront as IsFrontOf}
use Rattle.lvl_grammar.specs.inside.ReadTo.{ReadTo, IsSeenWrong}
use Rattle.lvl_grammar.proofs.Reading.{reads_unread}
use Rattle.lvl_profile.specs.declared.profile.Profile.{Profile}
use Rattle.oasis_values.specs.Faults.{is_rule}
use Rattle.oasis_values.specs.Input.{bytes_left, input_offset, has_failed, input_reader, input_profile}
use Rattle.oasis_values.specs.Numbers.{IsOneByte, IsByte}
use Rattle.oasis_values.specs.Reads.{Fails, Reads, bytes_had}
use Rattle.oasis_values.specs.declared.fault.ValueFault.{ValueFault}
use Rattle.oasis_values.specs.declared.fault.ValueFault.TheVariants.{Truncated, TooLong, Read, Failed}
use Rattle.oasis_values.specs.declared.input.Input.{Input}
use Rattle.oasis_stream.specs.Items.{Item, IsEnded}
use Rattle.oasis_stream.specs.Next.{IsItem}
use Rattle.oasis_stream.specs.Front.{oasis}
use Rattle.oasis_stream.specs.Faults.{oasis_faults}
use Rattle.oasis_stream.specs.inside.Refuses.{RefusesAt}
use Rattle.oasis_stream.specs.declared.fault.OasisKind.TheVariants.{Value, AfterEnd}
use Rattle.oasis_stream.proofs.Items.{item_needs, item_said}
use Rattle.oasis_stream.proofs.Seen.{IsSeen, law_seen, front_seen, room_seen, answers_under}
use Rattle.oasis_stream.proofs.Steps.{wrong_seen}

-- a byte follows
pub byte_refuses : {R : Type 0} {remaining : R → Option (List ℕ)} {errors : R → ℕ} {lent : R → List GName}
    {Has : List Item → Type 0} (profile : Profile) (xs : List ℕ) {old new : Input R}
    (to : ReadTo (oasis profile) xs (input_offset old) Has (bytes_left remaining old)) (b : ℕ)
    → has_failed old ≡ false → input_profile old ≡ profile → IsEnded to.records
    → Reads remaining errors lent IsByte old new (Ok b)
    → RefusesAt profile xs (remaining (input_reader new)) (input_offset old) AfterEnd
byte_refuses profile xs {old = old} {new = new} to b live under ended p =
    let at = input_offset old in
    let had = bytes_had old new in
    let a = answers_under profile under p live (drop at xs) to.left_is in
    let one : length a.0.bytes ≡ 1 = ap length a.0.says in
    wrong_seen profile xs at had to AfterEnd (law_seen (drop at xs) p to.left_is)
    (λ more. let f = front_seen IsOneByte (drop at xs) had (input_offset new - at) (Ok b) a.0 (omega arith) more in (
      ended,
      omega (arith, one, a.0.count, a.1),
      omega (
        arith,
        ap length f.whole,
        length-append f.bytes f.rest,
        ap length
            f.says,
      ),
    ))

-- a single byte has no unfinished beginning but the empty list
short_byte : (x : Result ℕ ValueFault) (ys more : List ℕ) → 0 < length more → IsOneByte (ys ++ more) x → length ys ≡ 0
short_byte (Ok x) ys more short says = omega (arith, short, ap length says, length-append ys more)
short_byte (Err f) ys more short says = absurd says

begun_byte : (ys : List ℕ) → IsBegun IsOneByte ys → length ys ≡ 0
begun_byte ys b = short_byte b.value ys b.more b.short b.says

-- the limit of a file is reached, and a byte follows
long_after : {Has : List Item → Type 0} {was left : Option (List ℕ)} (profile : Profile) (xs : List ℕ) (at had : ℕ)
    (to : ReadTo (oasis profile) xs at Has was)
    → IsSeen (drop at xs) had left → Fails IsOneByte (profile.limits.file - at) had (drop at xs) TooLong
    → IsSeenWrong (oasis_faults profile) xs at left (Value TooLong)
long_after profile xs at had to s p =
    let q = p.too_long refl in
    let none : length (take (profile.limits.file - at) (drop at xs)) ≡ 0 = begun_byte (take (profile.limits.file - at) (drop at xs))
    q.2 in
    let nil : take (profile.limits.file - at) (drop at xs) ≡ [] = nil_from_length (take (profile.limits.file - at) (drop at xs)) none in
    let said = item_said to.records profile in
    let begun : IsBegun (IsItem to.records profile) [] = record {
      more = said.bytes;
      value = said.value;
      short = item_needs profile to.records said.bytes said.value said.says;
      says = said.says;
    } in
    wrong_seen profile xs at had to (Value TooLong) s
    (λ more. let z = room_seen (drop at xs) had (profile.limits.file - at) more q.0 q.1 in
    inl (refl, (z.0, ((λ e. z.1 ∙ nil), subst (IsBegun (IsItem to.records profile)) (sym (z.1 ∙ nil)) begun))))

-- a byte breaches no rule of values
byte_rule : {A : Type 0} (room had : ℕ) (ys : List ℕ) (f : ValueFault) → is_rule f ≡ true
    → Fails IsOneByte room had ys f
    → A
byte_rule room had ys f rule p = absurd ((p.breached rule).front.says)

-- no byte could be read, but the input hasn't ended
pub after_refuses : {Has : List Item → Type 0} {was left : Option (List ℕ)} (profile : Profile) (xs : List ℕ) (at had : ℕ)
    (to : ReadTo (oasis profile) xs at Has was) (f : ValueFault)
    → ¬ (f ≡ Truncated) → ¬ (f ≡ Failed) → IsSeen (drop at xs) had left
    → Fails IsOneByte (profile.limits.file - at) had (drop at xs) f → RefusesAt profile xs left at (Value f)
after_refuses profile xs at had to Truncated t n s p = absurd (t refl)
after_refuses {Has = Has} {was = was} {left = left} profile xs at had to Read t n s p =
    let none : length (take had (drop at xs)) ≡ 0 = begun_byte (take had (drop at xs)) (p.unread refl).1 in
    reads_unread (oasis_faults profile) xs at Has was left to (take had (drop at xs)) s.rest s.parts s.left_is
    (λ some. absurd (omega (arith, none, some)))
after_refuses profile xs at had to TooLong t n s p = long_after profile xs at had to s p
after_refuses profile xs at had to Failed t n s p = absurd (n refl)
after_refuses profile xs at had to _ t n s p = byte_rule _ _ _ _ refl p

-- the input has ended, and is a whole file
pub whole_file : {Has : List Item → Type 0} {had : ℕ} {was : Option (List ℕ)} (profile : Profile) (xs : List ℕ) (at : ℕ)
    (to : ReadTo (oasis profile) xs at Has was) → IsEnded to.records
    → Fails IsOneByte (profile.limits.file - at) had (drop at xs) Truncated → SpellsWhole (oasis profile) xs to.records
whole_file profile xs at to ended p =
    let nil : drop at xs ≡ [] = nil_from_length (drop at xs) (begun_byte (drop at xs) (p.truncated refl).1) in
    let all : take at xs ≡ xs = sym (append-nil (take at xs)) ∙ ap (λ l. take at xs ++ l) (sym nil)
    ∙ take-append-drop at xs in
    record { front = subst (λ l. IsFrontOf (oasis profile) l to.records) all to.front; whole = ended }
