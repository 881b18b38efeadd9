-- A file is read item by item: what each call that reads an item says about the whole input.
use Rattle.std.proofs.Common.{◌≡◌, ℕ, ◌+◌, ◌-◌, true, false, List, [], ◌∷◌, ◌++◌, length, take, drop, Ok, Err, refl}
use Rattle.std.proofs.Common.{sym, ap, ◌∙◌, subst, inl, inr, arith}
use Rattle.std.specs.Prelude.{Option, Some}
use Rattle.std.specs.Borrow.{GName}
use Rattle.lvl_io.specs.Spelling.{IsBegun}
use Rattle.lvl_grammar.specs.Refused.{IsTruncated}
use Rattle.lvl_grammar.specs.inside.ReadTo.{ReadTo, IsSeenWrong}
use Rattle.lvl_grammar.proofs.Reading.{reads_on, reads_unread}
use Rattle.lvl_refusal.specs.declared.Cause.TheVariants.{Breach}
use Rattle.lvl_profile.specs.declared.profile.Profile.{Profile}
use Rattle.oasis_values.specs.Faults.{is_rule}
use Rattle.oasis_values.specs.Input.{bytes_left, input_offset, has_failed, input_reader, input_profile}
use Rattle.oasis_values.specs.Reads.{Fails, Reads, bytes_had}
use Rattle.oasis_values.specs.declared.fault.ValueFault.{ValueFault}
use Rattle.oasis_values.specs.declared.fault.ValueFault.TheVariants.{Truncated, IntegerTooLarge, StringByte, RealType}
use Rattle.oasis_values.specs.declared.fault.ValueFault.TheVariants.{ZeroDenominator, PointListType, PointCount}
use Rattle.oasis_values.specs.declared.fault.ValueFault.TheVariants.{RepetitionType, RepetitionSize, ListSize, OutOfRange}
use Rattle.oasis_values.specs.declared.fault.ValueFault.TheVariants.{TooLong, Read, Failed, NoModal}
use Rattle.oasis_values.specs.declared.input.Input.{Input}
use Rattle.oasis_values.proofs.Reading.{front_rest}
use Rattle.oasis_blocks.specs.declared.fault.BlockRule.TheVariants.{TooLong as OverLimit, Deflate, BlockLength}
use Rattle.oasis_records.specs.declared.record.Record.{Record as ARecord}
use Rattle.oasis_records.specs.declared.record.Record.TheVariants.{Block as Packed}
use Rattle.oasis_stream.specs.Items.{Item, item, as_packed, IsEnded}
use Rattle.oasis_stream.specs.Next.{IsItem}
use Rattle.oasis_stream.specs.Blocks.{cause}
use Rattle.oasis_stream.specs.Front.{PackedBreaches, Breaches, MayFollow, oasis}
use Rattle.oasis_stream.specs.Faults.{BreaksRule, IsWrong, oasis_faults}
use Rattle.oasis_stream.specs.Reported.{of_kind}
use Rattle.oasis_stream.specs.inside.Refuses.{RefusesAt}
use Rattle.oasis_stream.specs.declared.fault.OasisKind.{OasisKind}
use Rattle.oasis_stream.specs.declared.fault.OasisKind.TheVariants.{Value, Record, Unexpected, Name, Figure, AfterEnd}
use Rattle.oasis_stream.specs.declared.fault.OasisKind.TheVariants.{TooManyCells, Block}
use Rattle.oasis_stream.proofs.Items.{item_unsaid}
use Rattle.oasis_stream.proofs.Only.{only_wrong}
use Rattle.oasis_stream.proofs.Seen.{IsSeen, law_seen, front_seen, room_seen, answers_under}

-- an item that may follow was read: the bytes before the new offset are a front with one more item
pub item_on : {R : Type 0} {remaining : R → Option (List ℕ)} {errors : R → ℕ} {lent : R → List GName} (profile : Profile)
    (xs : List ℕ)
    (Has Has' : List Item → Type 0) {old new : Input R}
    (to : ReadTo (oasis profile) xs (input_offset old) Has (bytes_left remaining old)) (i : Item)
    → has_failed old ≡ false → input_profile old ≡ profile
    → Reads remaining errors lent (IsItem to.records) old new (Ok (Ok (as_packed i)))
    → MayFollow profile to.records i → Has' (to.records ++ i ∷ [])
    → ReadTo (oasis profile) xs (input_offset new) Has' (bytes_left remaining new)
item_on {remaining = remaining} profile xs Has Has' {old = old} {new = new} to i live under p follows has =
    let at = input_offset old in
    let n = input_offset new - at in
    let a = answers_under profile under p live (drop at xs) to.left_is in
    let f = a.0 in
    let on = reads_on (oasis profile) xs at Has Has' (bytes_left remaining old) to i f.bytes f.rest f.whole f.says
    follows
    (omega (arith, f.count, a.1)) has in
    let here : at + length f.bytes ≡ input_offset new = omega (arith, f.count, p.forward) in
    let left : Some f.rest ≡ bytes_left remaining new =
    ap (λ (l : List ℕ). Some l) (sym (front_rest (IsItem to.records profile) (drop at xs) n (Ok (Ok (as_packed i))) f))
    ∙ sym (p.left (drop at xs) to.left_is) in
    subst (λ l. ReadTo (oasis profile) xs (input_offset new) Has' l) left
    (subst (λ j. ReadTo (oasis profile) xs j Has' (Some f.rest)) here
    on)

-- what is wrong with the bytes that were read is wrong whatever comes after them
pub wrong_seen : {Has : List Item → Type 0} {was left : Option (List ℕ)} (profile : Profile) (xs : List ℕ) (at had : ℕ)
    (to : ReadTo (oasis profile) xs at Has was) (k : OasisKind)
    → IsSeen (drop at xs) had left
    → ((more : List ℕ) → IsWrong profile to.records (profile.limits.file - at) (take had (drop at xs) ++ more) k)
    → IsSeenWrong (oasis_faults profile) xs at left k
wrong_seen profile xs at had to k s w =
    let here : IsWrong profile to.records (profile.limits.file - at) (drop at xs) k =
    subst (λ l. IsWrong profile to.records (profile.limits.file - at) l k) (sym s.parts) (w s.rest) in
    record {
      within = to.within;
      records = to.records;
      front = to.front;
      seen = take had (drop at xs);
      rest = s.rest;
      parts = s.parts;
      left_is = s.left_is;
      wrong = w;
      only = λ j v. only_wrong profile to.records (profile.limits.file - at) (drop at xs) j k v here;
    }

-- a rule of records, of names or of their order is breached by the bytes that were taken
rule_refuses : {R : Type 0} {remaining : R → Option (List ℕ)} {errors : R → ℕ} {lent : R → List GName}
    {Has : List Item → Type 0} (profile : Profile) (xs : List ℕ) {old new : Input R}
    (to : ReadTo (oasis profile) xs (input_offset old) Has (bytes_left remaining old)) (k : OasisKind)
    → has_failed old ≡ false → input_profile old ≡ profile → ¬ IsEnded to.records
    → ((room : ℕ) (ys : List ℕ) → BreaksRule profile to.records room ys k → IsWrong profile to.records room ys k)
    → Reads remaining errors lent (IsItem to.records) old new (Ok (Err k))
    → IsSeenWrong (oasis_faults profile) xs (input_offset old) (remaining (input_reader new)) k
rule_refuses {remaining = remaining} profile xs {old = old} {new = new} to k live under unended is_wrong p =
    let at = input_offset old in
    let n = input_offset new - at in
    let had = bytes_had old new in
    let a = answers_under profile under p live (drop at xs) to.left_is in
    wrong_seen profile xs at had to k (law_seen (drop at xs) p to.left_is)
    (λ more. is_wrong (profile.limits.file - at) (take had (drop at xs) ++ more) (
      unended,
      n,
      a.1,
      inl (front_seen (IsItem to.records profile) (drop at xs) had n (Ok (Err k)) a.0
          (omega arith) more),
    ))

-- a complete item breaches a rule
item_refuses : {R : Type 0} {remaining : R → Option (List ℕ)} {errors : R → ℕ} {lent : R → List GName}
    {Has : List Item → Type 0} (profile : Profile) (xs : List ℕ) {old new : Input R}
    (to : ReadTo (oasis profile) xs (input_offset old) Has (bytes_left remaining old)) (i : Item) (k : OasisKind)
    → has_failed old ≡ false → input_profile old ≡ profile → ¬ IsEnded to.records
    → ((room : ℕ) (ys : List ℕ) → BreaksRule profile to.records room ys k → IsWrong profile to.records room ys k)
    → Breaches profile to.records i k
    → Reads remaining errors lent (IsItem to.records) old new (Ok (Ok i))
    → IsSeenWrong (oasis_faults profile) xs (input_offset old) (remaining (input_reader new)) k
item_refuses {remaining = remaining} profile xs {old = old} {new = new} to i k live under unended is_wrong breach p =
    let at = input_offset old in
    let n = input_offset new - at in
    let had = bytes_had old new in
    let a = answers_under profile under p live (drop at xs) to.left_is in
    wrong_seen profile xs at had to k (law_seen (drop at xs) p to.left_is)
    (λ more. is_wrong (profile.limits.file - at) (take had (drop at xs) ++ more) (
      unended,
      n,
      a.1,
      inr (
        i,
        front_seen (IsItem to.records profile) (drop at xs) had n (Ok (Ok i)) a.0 (omega arith) more,
        breach,
      ),
    ))

-- a rule of values that is breached inside a block is a rule
rule_inside : (profile : Profile) (before : List Item) (r : ARecord) (f : ValueFault)
    → PackedBreaches profile before r (Value f) → is_rule f ≡ true
rule_inside profile before (Packed p) f b = b.1.2.wrong.0
rule_inside profile before _ f b = absurd b

pub rule_in_item : (profile : Profile) (before : List Item) (i : Item) (f : ValueFault)
    → Breaches profile before i (Value f) → is_rule f ≡ true
rule_in_item profile before (item r) f b = elim b [
  | inl x ↦ absurd x
  | inr x ↦ rule_inside profile before r f x
]
rule_in_item profile before _ f b = absurd b

-- nothing is after END inside a block
none_after : (profile : Profile) (before : List Item) (r : ARecord) → PackedBreaches profile before r AfterEnd → ⊥
none_after profile before (Packed p) b = b.1.2.wrong
none_after profile before _ b = b

never_ends : (profile : Profile) (before : List Item) (i : Item) → Breaches profile before i AfterEnd → ⊥
never_ends profile before (item r) b = elim b [
  | inl x ↦ x
  | inr x ↦ none_after profile before r x
]
never_ends profile before _ b = b

-- a rule is neither that the input ends nor that the reader failed
rule_seen : (profile : Profile) (xs : List ℕ) (left : Option (List ℕ)) (at : ℕ) (f : ValueFault) → is_rule f ≡ true
    → IsSeenWrong (oasis_faults profile) xs at left (Value f) → RefusesAt profile xs left at (Value f)
rule_seen profile xs left at Truncated rule w = (let z : false ≡ true = rule in cc)
rule_seen profile xs left at Read rule w = (let z : false ≡ true = rule in cc)
rule_seen profile xs left at _ rule w = w

pub breach_refuses : {R : Type 0} {remaining : R → Option (List ℕ)} {errors : R → ℕ} {lent : R → List GName}
    {Has : List Item → Type 0} (profile : Profile) (xs : List ℕ) {old new : Input R}
    (to : ReadTo (oasis profile) xs (input_offset old) Has (bytes_left remaining old)) (i : Item) (k : OasisKind)
    → has_failed old ≡ false → input_profile old ≡ profile → ¬ IsEnded to.records
    → Breaches profile to.records i (cause k)
    → Reads remaining errors lent (IsItem to.records) old new (Ok (Ok i))
    → RefusesAt profile xs (remaining (input_reader new)) (input_offset old) k
breach_refuses {remaining = remaining} profile xs {old = old} {new = new} to i (Value f) live under unended b p =
    rule_seen profile xs (remaining (input_reader new)) (input_offset old) f (rule_in_item profile to.records i f b)
    (item_refuses profile xs to i (Value f) live under unended (λ room ys w. inr (inr w)) b p)
breach_refuses profile xs to i AfterEnd live under unended b p = absurd (never_ends profile to.records i b)
breach_refuses profile xs to i (Block OverLimit) live under unended b p =
    item_refuses profile xs to i (Block OverLimit) live under unended (λ room ys w. w) b p
breach_refuses profile xs to i (Block Deflate) live under unended b p =
    item_refuses profile xs to i (Block BlockLength) live under unended (λ room ys w. w) b p
breach_refuses profile xs to i (Block BlockLength) live under unended b p =
    item_refuses profile xs to i (Block BlockLength) live under unended (λ room ys w. w) b p
breach_refuses profile xs to i (Record k) live under unended b p =
    item_refuses profile xs to i (Record k) live under unended (λ room ys w. w) b p
breach_refuses profile xs to i (Unexpected k) live under unended b p =
    item_refuses profile xs to i (Unexpected k) live under unended (λ room ys w. w) b p
breach_refuses profile xs to i (Name k) live under unended b p =
    item_refuses profile xs to i (Name k) live under unended (λ room ys w. w) b p
breach_refuses profile xs to i (Figure k) live under unended b p =
    item_refuses profile xs to i (Figure k) live under unended (λ room ys w. w) b p
breach_refuses profile xs to i TooManyCells live under unended b p =
    item_refuses profile xs to i TooManyCells live under unended (λ room ys w. w) b p

-- a rule of values is breached
value_refuses : {Has : List Item → Type 0} {was left : Option (List ℕ)} (profile : Profile) (xs : List ℕ) (at had : ℕ)
    (to : ReadTo (oasis profile) xs at Has was) (f : ValueFault) → ¬ IsEnded to.records
    → is_rule f ≡ true → IsSeen (drop at xs) had left
    → Fails (IsItem to.records profile) (profile.limits.file - at) had (drop at xs) f
    → IsSeenWrong (oasis_faults profile) xs at left (Value f)
value_refuses profile xs at had to f unended rule s p =
    let b = p.breached rule in
    wrong_seen profile xs at had to (Value f) s
    (λ more. inr (inl (
      unended,
      rule,
      record {
        count = b.count;
        within = b.within;
        front = front_seen (IsItem to.records profile) (drop at xs) had b.count (Err f) b.front b.seen more;
      },
    )))

long_refuses : {Has : List Item → Type 0} {was left : Option (List ℕ)} (profile : Profile) (xs : List ℕ) (at had : ℕ)
    (to : ReadTo (oasis profile) xs at Has was) → ¬ IsEnded to.records
    → IsSeen (drop at xs) had left → Fails (IsItem to.records profile) (profile.limits.file - at) had (drop at xs) TooLong
    → IsSeenWrong (oasis_faults profile) xs at left (Value TooLong)
long_refuses profile xs at had to unended s p =
    let q = p.too_long refl in
    wrong_seen profile xs at had to (Value TooLong) s
    (λ more. let z = room_seen (drop at xs) had (profile.limits.file - at) more q.0 q.1 in
    inl (refl, (z.0, ((λ e. absurd (unended e)), subst (IsBegun (IsItem to.records profile)) (sym z.1) q.2))))

cut_refuses : {Has : List Item → Type 0} {had : ℕ} {was : Option (List ℕ)} (profile : Profile) (xs : List ℕ) (at : ℕ)
    (to : ReadTo (oasis profile) xs at Has was) → ¬ IsEnded to.records
    → Fails (IsItem to.records profile) (profile.limits.file - at) had (drop at xs) Truncated
    → IsTruncated (oasis_faults profile) xs at
cut_refuses profile xs at to unended p =
    record {
      within = to.within;
      records = to.records;
      front = to.front;
      unended = unended;
      cut = ((λ e. absurd (unended e)), (p.truncated refl).1);
    }

-- a value couldn't be read
fault_refuses : {Has : List Item → Type 0} {was left : Option (List ℕ)} (profile : Profile) (xs : List ℕ) (at had : ℕ)
    (to : ReadTo (oasis profile) xs at Has was) (f : ValueFault) → ¬ IsEnded to.records
    → ¬ (f ≡ Failed) → IsSeen (drop at xs) had left
    → Fails (IsItem to.records profile) (profile.limits.file - at) had (drop at xs) f
    → RefusesAt profile xs left at (Value f)
fault_refuses profile xs at had to Truncated u n s p = cut_refuses profile xs at to u p
fault_refuses {Has = Has} {was = was} {left = left} profile xs at had to Read u n s p =
    reads_unread (oasis_faults profile) xs at Has was left to (take had (drop at xs)) s.rest s.parts s.left_is
    (λ some. ((λ e. absurd (u e)), (p.unread refl).1))
fault_refuses profile xs at had to TooLong u n s p = long_refuses profile xs at had to u s p
fault_refuses profile xs at had to Failed u n s p = absurd (n refl)
fault_refuses profile xs at had to IntegerTooLarge u n s p = value_refuses profile xs at had to IntegerTooLarge u refl s p
fault_refuses profile xs at had to StringByte u n s p = value_refuses profile xs at had to StringByte u refl s p
fault_refuses profile xs at had to RealType u n s p = value_refuses profile xs at had to RealType u refl s p
fault_refuses profile xs at had to ZeroDenominator u n s p = value_refuses profile xs at had to ZeroDenominator u refl s p
fault_refuses profile xs at had to PointListType u n s p = value_refuses profile xs at had to PointListType u refl s p
fault_refuses profile xs at had to PointCount u n s p = value_refuses profile xs at had to PointCount u refl s p
fault_refuses profile xs at had to RepetitionType u n s p = value_refuses profile xs at had to RepetitionType u refl s p
fault_refuses profile xs at had to RepetitionSize u n s p = value_refuses profile xs at had to RepetitionSize u refl s p
fault_refuses profile xs at had to ListSize u n s p = value_refuses profile xs at had to ListSize u refl s p
fault_refuses profile xs at had to OutOfRange u n s p = value_refuses profile xs at had to OutOfRange u refl s p
fault_refuses profile xs at had to NoModal u n s p = value_refuses profile xs at had to NoModal u refl s p

-- a call that reads the next item refused it
pub next_refuses : {R : Type 0} {remaining : R → Option (List ℕ)} {errors : R → ℕ} {lent : R → List GName}
    {Has : List Item → Type 0} (profile : Profile) (xs : List ℕ) {old new : Input R}
    (to : ReadTo (oasis profile) xs (input_offset old) Has (bytes_left remaining old)) (k : OasisKind)
    → has_failed old ≡ false → input_profile old ≡ profile → ¬ IsEnded to.records
    → Reads remaining errors lent (IsItem to.records) old new
    (of_kind k)
    → RefusesAt profile xs (remaining (input_reader new)) (input_offset old) k
next_refuses profile xs {old = old} {new = new} to (Value f) live under u p =
    fault_refuses profile xs (input_offset old) (bytes_had old new) to f u
    (λ e. p.fresh live (ap (λ (i : ValueFault). Err (Breach i)) e))
    (law_seen (drop (input_offset old) xs) p to.left_is)
    (answers_under profile under p live (drop (input_offset old) xs) to.left_is)
next_refuses profile xs {old = old} to AfterEnd live under u p =
    let f = (answers_under profile under p live (drop (input_offset old) xs) to.left_is).0 in
    let z : true ≡ false = item_unsaid profile to.records f.bytes AfterEnd f.says in cc
next_refuses profile xs {old = old} to (Block k) live under u p =
    let f = (answers_under profile under p live (drop (input_offset old) xs) to.left_is).0 in
    let z : true ≡ false = item_unsaid profile to.records f.bytes (Block k) f.says in cc
next_refuses profile xs to (Record k) live under u p = rule_refuses profile xs to (Record k) live under u
    (λ room ys w. w) p
next_refuses profile xs to (Unexpected id) live under u p = rule_refuses profile xs to (Unexpected id) live under u
    (λ room ys w. w) p
next_refuses profile xs to (Name k) live under u p = rule_refuses profile xs to (Name k) live under u (λ room ys w. w) p
next_refuses profile xs to (Figure k) live under u p = rule_refuses profile xs to (Figure k) live under u
    (λ room ys w. w) p
next_refuses profile xs to TooManyCells live under u p = rule_refuses profile xs to TooManyCells live under u
    (λ room ys w. w) p
