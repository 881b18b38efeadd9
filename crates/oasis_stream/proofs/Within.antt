-- The bytes of a block are read record by record: what each call says about all of them.
use Rattle.std.proofs.Common.{◌≡◌, ℕ, ◌+◌, ◌-◌, ◌<◌, ◌≤◌, true, false, List, [], ◌∷◌, ◌++◌, length, drop, Ok, Err}
use Rattle.std.proofs.Common.{refl, sym, ap, ◌∙◌, subst, inl, inr, arith, length-append, length-drop}
use Rattle.std.proofs.lemmas.List.{take_all}
use Rattle.std.specs.Prelude.{Option, Some}
use Rattle.std.specs.Borrow.{GName}
use Rattle.lvl_grammar.specs.Front.{IsFront, SpellsWhole}
use Rattle.lvl_grammar.specs.inside.ReadTo.{ReadTo}
use Rattle.lvl_grammar.proofs.Reading.{reads_on, reads_begin}
use Rattle.lvl_refusal.specs.declared.Cause.TheVariants.{Breach}
use Rattle.lvl_profile.specs.declared.profile.Profile.{Profile}
use Rattle.oasis_values.specs.Faults.{is_rule}
use Rattle.oasis_values.specs.Input.{bytes_left, input_offset, has_failed, input_profile}
use Rattle.oasis_values.specs.Reads.{Fails, Reads, bytes_had}
use Rattle.oasis_values.specs.declared.fault.ValueFault.{ValueFault}
use Rattle.oasis_values.specs.declared.fault.ValueFault.TheVariants.{Truncated, TooLong, Read, Failed}
use Rattle.oasis_values.specs.declared.input.Input.{Input}
use Rattle.oasis_values.proofs.Reading.{front_rest}
use Rattle.oasis_blocks.specs.declared.fault.BlockRule.TheVariants.{BlockLength}
use Rattle.oasis_records.specs.declared.record.Record.{Record}
use Rattle.oasis_stream.specs.Items.{item}
use Rattle.oasis_stream.specs.Next.{IsNext}
use Rattle.oasis_stream.specs.Blocks.{inside, StopsInside, IsWrongInside, BreaksRuleInside, cause}
use Rattle.oasis_stream.specs.Reported.{of_kind}
use Rattle.oasis_stream.specs.Rules.{RecordBreaches, KeepsRules}
use Rattle.oasis_stream.specs.inside.Within.{within_block}
use Rattle.oasis_stream.specs.declared.fault.OasisKind.{OasisKind}
use Rattle.oasis_stream.specs.declared.fault.OasisKind.TheVariants.{Value, Record as OfRecord, Unexpected, Name, Figure}
use Rattle.oasis_stream.specs.declared.fault.OasisKind.TheVariants.{AfterEnd, TooManyCells, Block}
use Rattle.oasis_stream.proofs.Items.{next_needs, next_unsaid}
use Rattle.oasis_stream.proofs.Seen.{answers_under}

-- a record that keeps the rules was read: the bytes before the new offset are a front with one more record
pub inside_on : {R : Type 0} {remaining : R → Option (List ℕ)} {errors : R → ℕ} {lent : R → List GName}
    (profile : Profile) (outer : List Record) (ys : List ℕ) (Has Has' : List Record → Type 0) {old new : Input R}
    (to : ReadTo (inside profile outer (length ys)) ys (input_offset old) Has (bytes_left remaining old)) (r : Record)
    → has_failed old ≡ false → input_profile old ≡ profile
    → Reads remaining errors lent (IsNext true (outer ++ to.records)) old new (Ok (Ok (item r)))
    → KeepsRules profile (outer ++ to.records) r → Has' (to.records ++ r ∷ [])
    → ReadTo (inside profile outer (length ys)) ys (input_offset new) Has' (bytes_left remaining new)
inside_on {remaining = remaining} profile outer ys Has Has' {old = old} {new = new} to r live under p keeps has =
    let G = inside profile outer (length ys) in
    let at = input_offset old in
    let n = input_offset new - at in
    let S = IsNext true (outer ++ to.records) profile in
    let a = answers_under profile under p live (drop at ys) to.left_is in
    let f = a.0 in
    let fits : length f.bytes ≤ length ys - at =
    omega (arith, to.within, length-drop at ys, ap length f.whole, length-append f.bytes f.rest) in
    let on = reads_on G ys at Has Has' (bytes_left remaining old) to r f.bytes f.rest f.whole f.says keeps fits has in
    let here : at + length f.bytes ≡ input_offset new = omega (arith, f.count, p.forward) in
    let left : Some f.rest ≡ bytes_left remaining new =
    ap (λ (l : List ℕ). Some l) (sym (front_rest S (drop at ys) n (Ok (Ok (item r))) f))
    ∙ sym (p.left (drop at ys) to.left_is) in
    subst (λ l. ReadTo G ys (input_offset new) Has' l) left
    (subst (λ j. ReadTo G ys j Has' (Some f.rest)) here on)

-- it takes at least one byte
pub inside_takes : {R : Type 0} {remaining : R → Option (List ℕ)} {errors : R → ℕ} {lent : R → List GName}
    (profile : Profile) (outer : List Record) (ys : List ℕ) (Has : List Record → Type 0) {old new : Input R}
    (to : ReadTo (inside profile outer (length ys)) ys (input_offset old) Has (bytes_left remaining old)) (r : Record)
    → has_failed old ≡ false → input_profile old ≡ profile
    → Reads remaining errors lent (IsNext true (outer ++ to.records)) old new (Ok (Ok (item r)))
    → input_offset old < input_offset new
inside_takes profile outer ys Has {old = old} to r live under p =
    let f = (answers_under profile under p live (drop (input_offset old) ys) to.left_is).0 in
    omega (arith, next_needs true profile (outer ++ to.records) f.bytes (Ok (Ok (item r))) f.says, f.count)

-- all bytes were read
pub inside_whole : (profile : Profile) (outer : List Record) (ys : List ℕ) (at : ℕ) (Has : List Record → Type 0)
    (left : Option (List ℕ)) (to : ReadTo (inside profile outer (length ys)) ys at Has left) → length ys ≤ at
    → SpellsWhole (inside profile outer (length ys)) ys to.records
inside_whole profile outer ys at Has left to all =
    record {
      front = subst (λ l. IsFront (inside profile outer (length ys)) l to.records) (take_all at ys all) to.front;
      whole = tt;
    }

-- the bytes from the offset on breach a rule
stops_at : (profile : Profile) (outer : List Record) (ys : List ℕ) (at : ℕ) (Has : List Record → Type 0)
    (left : Option (List ℕ)) (to : ReadTo (inside profile outer (length ys)) ys at Has left) (k : OasisKind)
    → IsWrongInside profile (outer ++ to.records) (length ys - at) (drop at ys) k → StopsInside profile outer ys k
stops_at profile outer ys at Has left to k w =
    record { at = at; within = to.within; inner = to.records; front = to.front; wrong = w }

-- a complete record breaches a rule
pub inside_breached : {R : Type 0} {remaining : R → Option (List ℕ)} {errors : R → ℕ} {lent : R → List GName}
    (profile : Profile) (outer : List Record) (ys : List ℕ) (Has : List Record → Type 0) {old new : Input R}
    (to : ReadTo (inside profile outer (length ys)) ys (input_offset old) Has (bytes_left remaining old)) (r : Record)
    (k : OasisKind) → has_failed old ≡ false → input_profile old ≡ profile
    → Reads remaining errors lent (IsNext true (outer ++ to.records)) old new (Ok (Ok (item r)))
    → RecordBreaches profile (outer ++ to.records) r k → StopsInside profile outer ys (cause k)
inside_breached {remaining = remaining} profile outer ys Has {old = old} {new = new} to r (Name k) live under p b =
    let f = (answers_under profile under p live (drop (input_offset old) ys) to.left_is).0 in
    stops_at profile outer ys (input_offset old) Has (bytes_left remaining old) to (Name k)
    (input_offset new - input_offset old, inr (r, f, b))
inside_breached {remaining = remaining} profile outer ys Has {old = old} {new = new} to r (Figure k) live under p b =
    let f = (answers_under profile under p live (drop (input_offset old) ys) to.left_is).0 in
    stops_at profile outer ys (input_offset old) Has (bytes_left remaining old) to (Figure k)
    (input_offset new - input_offset old, inr (r, f, b))
inside_breached profile outer ys Has to r _ live under p b = absurd b

-- a rule is breached by the bytes of the next record
said_inside : {R : Type 0} {remaining : R → Option (List ℕ)} {errors : R → ℕ} {lent : R → List GName}
    (profile : Profile) (outer : List Record) (ys : List ℕ) (Has : List Record → Type 0) {old new : Input R}
    (to : ReadTo (inside profile outer (length ys)) ys (input_offset old) Has (bytes_left remaining old))
    (k : OasisKind) → has_failed old ≡ false → input_profile old ≡ profile
    → (BreaksRuleInside profile (outer ++ to.records) (drop (input_offset old) ys) k
    → IsWrongInside profile (outer ++ to.records) (length ys - input_offset old) (drop (input_offset old) ys) k)
    → Reads remaining errors lent (IsNext true (outer ++ to.records)) old new (Ok (Err k))
    → StopsInside profile outer ys k
said_inside {remaining = remaining} profile outer ys Has {old = old} {new = new} to k live under is_wrong p =
    let f = (answers_under profile under p live (drop (input_offset old) ys) to.left_is).0 in
    stops_at profile outer ys (input_offset old) Has (bytes_left remaining old) to k
    (is_wrong (input_offset new - input_offset old, inl f))

-- a rule of values
rule_inside : (profile : Profile) (outer : List Record) (ys : List ℕ) (at had : ℕ) (Has : List Record → Type 0)
    (left : Option (List ℕ)) (to : ReadTo (inside profile outer (length ys)) ys at Has left) (f : ValueFault)
    → is_rule f ≡ true
    → Fails (IsNext true (outer ++ to.records) profile) (profile.limits.file - at) had (drop at ys) f
    → StopsInside profile outer ys (Value f)
rule_inside profile outer ys at had Has left to f rule p =
    let b = p.breached rule in
    stops_at profile outer ys at Has left to (Value f) (rule, b.count, b.front)

-- a value couldn't be read, though the reader didn't fail
value_inside : (profile : Profile) (outer : List Record) (ys : List ℕ) (at had : ℕ) (Has : List Record → Type 0)
    (left : Option (List ℕ)) (to : ReadTo (inside profile outer (length ys)) ys at Has left) (f : ValueFault)
    → ¬ (f ≡ Read) → ¬ (f ≡ Failed) → at < length ys → length ys ≤ profile.limits.file
    → Fails (IsNext true (outer ++ to.records) profile) (profile.limits.file - at) had (drop at ys) f
    → StopsInside profile outer ys (cause (within_block (Value f)))
value_inside profile outer ys at had Has left to Truncated r n some fits p =
    let q = p.truncated refl in
    stops_at profile outer ys at Has left to (Block BlockLength) (
      omega (arith, some, length-drop at ys),
      omega (arith, length-drop at ys),
      q.1,
    )
value_inside profile outer ys at had Has left to TooLong r n some fits p =
    let q = p.too_long refl in
    absurd (omega (arith, q.0, length-drop at ys, fits, to.within))
value_inside profile outer ys at had Has left to Read r n some fits p = absurd (r refl)
value_inside profile outer ys at had Has left to Failed r n some fits p = absurd (n refl)
value_inside profile outer ys at had Has left to _ r n some fits p =
    rule_inside profile outer ys at had Has left to _ refl p

-- a call that reads the next record refused it, though the reader didn't fail
pub inside_refused : {R : Type 0} {remaining : R → Option (List ℕ)} {errors : R → ℕ} {lent : R → List GName}
    (profile : Profile) (outer : List Record) (ys : List ℕ) (Has : List Record → Type 0) {old new : Input R}
    (to : ReadTo (inside profile outer (length ys)) ys (input_offset old) Has (bytes_left remaining old))
    (k : OasisKind) → has_failed old ≡ false → input_profile old ≡ profile
    → ¬ (k ≡ Value Read) → input_offset old < length ys → length ys ≤ profile.limits.file
    → Reads remaining errors lent (IsNext true (outer ++ to.records)) old new (of_kind k)
    → StopsInside profile outer ys (cause (within_block k))
inside_refused {remaining = remaining} profile outer ys Has {old = old} {new = new} to (Value f) live under r some fits
    p =
    value_inside profile outer ys (input_offset old) (bytes_had old new) Has (bytes_left remaining old) to f
    (λ e. r (ap Value e)) (λ e. p.fresh live (ap (λ (i : ValueFault). Err (Breach i)) e)) some fits
    (answers_under profile under p live (drop (input_offset old) ys) to.left_is)
inside_refused profile outer ys Has {old = old} to AfterEnd live under r some fits p =
    let f = (answers_under profile under p live (drop (input_offset old) ys) to.left_is).0 in
    let z : true ≡ false = next_unsaid true profile (outer ++ to.records) f.bytes AfterEnd f.says in cc
inside_refused profile outer ys Has {old = old} to (Block k) live under r some fits p =
    let f = (answers_under profile under p live (drop (input_offset old) ys) to.left_is).0 in
    let z : true ≡ false = next_unsaid true profile (outer ++ to.records) f.bytes (Block k) f.says in cc
inside_refused profile outer ys Has to (OfRecord k) live under r some fits p =
    said_inside profile outer ys Has to (OfRecord k) live under (λ w. w) p
inside_refused profile outer ys Has to (Unexpected k) live under r some fits p =
    said_inside profile outer ys Has to (Unexpected k) live under (λ w. w) p
inside_refused profile outer ys Has to (Name k) live under r some fits p =
    said_inside profile outer ys Has to (Name k) live under (λ w. w) p
inside_refused profile outer ys Has to (Figure k) live under r some fits p =
    said_inside profile outer ys Has to (Figure k) live under (λ w. w) p
inside_refused profile outer ys Has to TooManyCells live under r some fits p =
    said_inside profile outer ys Has to TooManyCells live under (λ w. w) p

-- nothing has been read
pub inside_begin : (profile : Profile) (outer : List Record) (ys : List ℕ) (Has : List Record → Type 0)
    (left : Option (List ℕ)) → left ≡ Some ys → Has []
    → ReadTo (inside profile outer (length ys)) ys 0 Has left
inside_begin profile outer ys Has left e h = reads_begin (inside profile outer (length ys)) ys Has left e h
