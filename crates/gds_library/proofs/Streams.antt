-- How a stream is read: record by record up to ENDLIB, then the zero bytes after it, or up to a fault.
use Rattle.lvl_profile.specs.declared.profile.Profile.{Profile}
use Rattle.std.proofs.Common.{append_assoc, ◌≡◌, ◌≢◌, ◌⊎◌, ℕ, ◌+◌, ◌-◌, ◌<◌, ◌≤◌, List, [], ◌∷◌, ◌++◌, length, take}
use Rattle.std.proofs.Common.{drop, Some, None, refl, sym, ap, ◌∙◌, subst, arith, inl, inr, ℤ, pos, zero, suc, true}
use Rattle.std.proofs.Common.{false, length-drop}
use Rattle.std.proofs.lemmas.List.{append-nil}
use Rattle.std.specs.Prelude.{Option, replicate, Err, Result}
use Rattle.std.specs.Io.KnownBytes.{prepend_known}
use Rattle.lvl_grammar.specs.Order.{IsWord}
use Rattle.lvl_grammar.specs.inside.After.{LeadsTo, can_be_empty}
use Rattle.lvl_grammar.specs.Front.{IsFront}
use Rattle.lvl_grammar.specs.Refused.{IsTruncated, IsUnread}
use Rattle.lvl_grammar.specs.inside.ReadTo.{ReadTo, IsSeenWrong}
use Rattle.lvl_grammar.proofs.Leads.{leads_begin, leads_unwhole, leads_whole}
use Rattle.lvl_grammar.proofs.Reading.{reads_unread, reads_on}
use Rattle.lvl_grammar.proofs.Stuck.{parts_at}
use Rattle.gds_records.specs.Spelled.{IsSpelledAt, IsBegun, IsUnfinished}
use Rattle.gds_records.specs.Step.{step, Decides}
use Rattle.gds_records.specs.Tail.{AnswersTail}
use Rattle.gds_records.specs.declared.fault.Stopped.TheVariants.{Fault}
use Rattle.gds_records.specs.declared.fault.RecordFault.{RecordFault}
use Rattle.gds_records.specs.declared.fault.RecordFault.TheVariants.{Truncated, BadLength, BadDataType, UnknownRecord}
use Rattle.gds_records.specs.declared.fault.RecordFault.TheVariants.{TooLong, Read}
use Rattle.gds_records.proofs.Laws.{law_malformed, length_spelled}
use Rattle.lvl_io.proofs.Known.{known_parts}
use Rattle.gds_elements.specs.Types.{header}
use Rattle.gds_elements.specs.Rec.{Rec, kinds, field}
use Rattle.gds_elements.specs.Values.{short}
use Rattle.gds_elements.specs.inside.Reading.{record_of}
use Rattle.gds_elements.specs.declared.element.Element.{Element as OpenElement}
use Rattle.gds_library.specs.Types.{fill}
use Rattle.gds_library.specs.Order.{a_library}
use Rattle.gds_library.specs.Ignoring.{essential, IsWholeBy, BreachesBy, BreachesOnlyBy, MayFollowBy}
use Rattle.gds_library.specs.Front.{gds, SpellsLibrary, IsRead}
use Rattle.gds_library.specs.Faults.{StartsWith, IsWrong, gds_faults}
use Rattle.gds_library.specs.Values.{drawings}
use Rattle.gds_library.specs.inside.Stage.{after, left, has_units}
use Rattle.gds_library.specs.inside.Shown.{shown, shown_at, done}
use Rattle.gds_library.specs.Rules.{IsWhole}
use Rattle.gds_library.specs.inside.Holds.{Holds, HoldsWith, HasReadBy, HoldsBy}
use Rattle.gds_library.proofs.Passing.{essential_kept, fill_unpassed, fill_waits, follows_essential}
use Rattle.gds_library.specs.inside.Refuses.{Refuses, RefusesAt}
use Rattle.gds_library.specs.Ends.{is_read_kind}
use Rattle.gds_library.specs.declared.fault.GdsFault.{GdsFault}
use Rattle.lvl_refusal.specs.Refused.{Says}
use Rattle.lvl_refusal.specs.declared.Cause.{Cause}
use Rattle.lvl_refusal.specs.declared.Cause.TheVariants.{Breach}
use Rattle.gds_library.specs.declared.fault.GdsKind.{GdsKind}
use Rattle.gds_library.specs.declared.fault.GdsKind.TheVariants.{Record, Misplaced, Element, Name, AfterEnd}
use Rattle.gds_library.specs.declared.fault.GdsKind.TheVariants.{TooManyCells}
use Rattle.gds_library.specs.declared.head.GdsHead.{GdsHead}
use Rattle.gds_library.specs.declared.stage.LibraryStage.{LibraryStage}
use Rattle.gds_library.specs.declared.stage.LibraryStage.TheVariants.{Header, Elements, Fill}
use Rattle.gds_library.specs.declared.builder.Builder.{Builder}
use Rattle.gds_library.specs.declared.ignoring.WithIgnored.{WithIgnored}
use Rattle.gds_library.proofs.Places.{leads_begins}
use Rattle.gds_library.proofs.Elements.{reading_open, open_unwhole}
use Rattle.gds_library.proofs.Steps.{law_fill, law_holds}
use Rattle.gds_library.proofs.Grown.{plain}
use Rattle.gds_library.proofs.Spellings.{a_fill, map-append}
use Rattle.gds_library.proofs.Instance.{starts_same}
use Rattle.gds_library.proofs.Readable.{law_only}

-- at each place but the last, something has to come
not_ended : (p : LibraryStage) → p ≢ Fill → can_be_empty (left p) ≡ false
not_ended Fill h = absurd (h refl)
not_ended _ h = refl

with_unwhole : (o : Option OpenElement) (b : Builder) (rs : List Rec) → HoldsWith o b rs → b.stage ≢ Fill → IsWhole rs
    → ⊥
with_unwhole None b rs h go w = leads_unwhole a_library (kinds rs) (left b.stage) (not_ended b.stage go) h.leads w
with_unwhole (Some e) b rs h go w =
    open_unwhole (kinds h.before) (kinds h.piece) (subst (λ p. LeadsTo a_library (kinds h.before) (left p)) h.at
    h.holds.leads) (reading_open e h.piece h.reading)
    (subst (IsWord a_library) (ap kinds h.parts ∙ map-append h.before h.piece) w)

-- before ENDLIB was read, the library isn't whole
pub has_unwhole : (profile : Profile) (x : WithIgnored) (rs : List Rec) → HasReadBy profile x rs
    → x.reading.builder.stage ≢ Fill → IsWholeBy profile rs → ⊥
has_unwhole profile x rs h go w =
    with_unwhole x.reading.element x.reading.builder (essential profile rs) h.essential go w

holds_whole : (profile : Profile) (b : Builder) (rs : List Rec) → HoldsBy profile b rs → b.stage ≡ Fill
    → IsWholeBy profile rs
holds_whole profile b rs h e =
    let es = kinds (essential profile rs) in
    leads_whole a_library es (left Fill) (subst (λ p. LeadsTo a_library es (left p)) e h.essential.leads)
    ([], tt, refl)

with_ended : (o : Option OpenElement) (b : Builder) (rs : List Rec) → HoldsWith o b rs → b.stage ≡ Fill → Holds b rs
with_ended None b rs h e = h
with_ended (Some i) b rs h e = (let z : Elements ≡ Fill = sym h.at ∙ e in cc)

-- after ENDLIB no element is open
pub reads_end : (profile : Profile) (xs : List ℕ) (at : ℕ) (x : WithIgnored) (was : Option (List ℕ))
    → ReadTo (gds profile) xs at (HasReadBy profile x) was
    → x.reading.builder.stage ≡ Fill → ReadTo (gds profile) xs at (HoldsBy profile x.reading.builder) was
reads_end profile xs at x was to e =
    record {
      records = to.records;
      front = to.front;
      holds = record {
        essential = with_ended x.reading.element x.reading.builder (essential profile to.records) to.holds.essential e;
        complete = λ w. to.holds.waits w e;
      };
      left_is = to.left_is;
      within = to.within;
    }

same_left : (a b : List ℕ) (was : Option (List ℕ)) → was ≡ Some a → was ≡ Some b → a ≡ b
same_left a b was e f = (let g : Some a ≡ Some b = sym e ∙ f in cc)

-- nothing has been read
pub holds_begin : (b : Builder) → b.stage ≡ Header → shown b ≡ [] → b.version ≡ pos 0 → Holds b []
holds_begin b p s v =
    record {
      leads = subst (λ q. LeadsTo a_library [] (left q)) (sym p) (leads_begin a_library);
      shown = s;
      version = v;
      units = λ z. (let y : has_units Header ≡ true = subst (λ i. has_units i ≡ true) p z in cc);
    }

-- the record that was read begins the bytes
abbrev starts : (profile : Profile) (room : ℕ) (ys : List ℕ) (k : ℕ) (payload : List ℕ)
    (s : IsSpelledAt profile.ignore room ys k payload)
    → StartsWith profile room ys (record_of k s.0 payload)
starts profile room ys k payload s = (s.1, s.2, s.3, s.4, omega (arith, s.5, length_spelled s.1 payload k s.0 s.4), s.6)

-- one more record
pub reads_record : (profile : Profile) (xs : List ℕ) (at : ℕ) (x x' : WithIgnored) (was left' : Option (List ℕ)) (k : ℕ)
    (payload : List ℕ)
    (to : ReadTo (gds profile) xs at (HasReadBy profile x) was)
    → IsSpelledAt profile.ignore (profile.limits.file - at) (drop at xs) k payload
    → ((d : ℕ) → HasReadBy profile x' (to.records ++ record_of k d payload ∷ [])
    × MayFollowBy profile to.records (record_of k d payload))
    → left' ≡ Some (drop (4 + length payload) (drop at xs))
    → ReadTo (gds profile) xs (at + (4 + length payload)) (HasReadBy profile x')
    left'
reads_record profile xs at x x' was left' k payload to s takes e =
    let long = length_spelled s.1 payload k s.0 s.4 in
    let rest = (parts_at (drop at xs) s.1 s.2 (4 + length payload) s.6 (sym long)).1 in
    let next = reads_on (gds profile) xs at (HasReadBy profile x) (HasReadBy profile x') was to
    (record_of k s.0 payload) s.1 s.2 s.6 (inl (s.3, s.4))
    (takes s.0).1 (omega (arith, long, s.5)) (takes s.0).0 in
    subst (λ i. ReadTo (gds profile) xs (at + i) (HasReadBy profile x') left') long
    (subst (ReadTo (gds profile) xs (at + length s.1) (HasReadBy profile x'))
    (ap (λ (l : List ℕ). Some l) (sym rest) ∙ sym e) next)

-- the bytes that are left: those in hand, and those of the reader
record IsLeft (bytes : List ℕ) (hand : List ℕ) (remaining : Option (List ℕ)) : Type 0 where
  rest : List ℕ
  parts : bytes ≡ hand ++ rest
  is : remaining ≡ Some rest

left_parts : (bytes hand : List ℕ) (remaining : Option (List ℕ)) → prepend_known hand remaining ≡ Some bytes
    → IsLeft bytes hand remaining
left_parts bytes hand remaining e =
    (let p = known_parts hand remaining bytes e in record { rest = p.0; parts = sym p.2; is = p.1 })

same_start : (profile : Profile) (room : ℕ) (ys : List ℕ) (r s : Rec) → StartsWith profile room ys r
    → StartsWith profile room ys s → s ≡ r
same_start profile room ys r s p q = starts_same profile room ys q.0 r s p q.3 (q.1, inr q.5)

-- a record that begins the bytes and breaches one rule is the only fault of the bytes
only_record : (profile : Profile) (before : List Rec) (room : ℕ) (ys : List ℕ) (r : Rec) (k : GdsKind)
    → (IsWholeBy profile before → ⊥)
    → StartsWith profile room ys r → BreachesOnlyBy profile before r k → (j : GdsKind) → IsWrong profile before room ys j
    → j ≡ k
only_record profile before room ys r k n s only (Record f) w =
    absurd (law_malformed profile.ignore room ys f w.2 w.0 r.kind r.data_type r.payload s.0 s.2 s.3
    (omega (arith, s.4, length_spelled s.0 r.payload r.kind r.data_type s.3)) (s.1, inr s.5))
only_record profile before room ys r k n s only AfterEnd w = absurd (n w.0)
only_record profile before room ys r k n s only (Misplaced m) w =
    only (Misplaced m) (subst (λ (x : Rec). BreachesBy profile before x (Misplaced m))
    (same_start profile room ys r w.1 s w.2) w.3)
only_record profile before room ys r k n s only (Element m) w =
    only (Element m) (subst (λ (x : Rec). BreachesBy profile before x (Element m))
    (same_start profile room ys r w.1 s w.2) w.3)
only_record profile before room ys r k n s only Name w =
    only Name (subst (λ (x : Rec). BreachesBy profile before x Name) (same_start profile room ys r w.1 s w.2) w.3)
only_record profile before room ys r k n s only TooManyCells w =
    only TooManyCells (subst (λ (x : Rec). BreachesBy profile before x TooManyCells)
    (same_start profile room ys r w.1 s w.2) w.3)

-- a rule that a record breaches
abbrev OfRecord : GdsKind → Type 0
OfRecord (Record f) = ⊥
OfRecord AfterEnd = ⊥
OfRecord k = Unit {0}

of_record : (profile : Profile) (before : List Rec) (r : Rec) (k : GdsKind) → BreachesBy profile before r k → OfRecord k
of_record profile before r (Record f) b = b.2
of_record profile before r AfterEnd b = b.2
of_record profile before r _ b = tt

wrong_record : (profile : Profile) (before : List Rec) (room : ℕ) (ys : List ℕ) (r : Rec) (k : GdsKind) → OfRecord k
    → (IsWholeBy profile before → ⊥)
    → StartsWith profile room ys r → BreachesBy profile before r k → IsWrong profile before room ys k
wrong_record profile before room ys r (Record f) o n s b = absurd o
wrong_record profile before room ys r AfterEnd o n s b = absurd o
wrong_record profile before room ys r _ o n s b = (n, r, s, b)

seen_refuses : (profile : Profile) (xs : List ℕ) (at : ℕ) (rest : Option (List ℕ)) (k : GdsKind) → OfRecord k
    → IsSeenWrong (gds_faults profile) xs at rest k
    → RefusesAt profile xs rest at k
seen_refuses profile xs at rest (Record f) o s = absurd o
seen_refuses profile xs at rest AfterEnd o s = absurd o
seen_refuses profile xs at rest _ o s = s

-- a record is refused
pub reads_refused : (profile : Profile) (xs : List ℕ) (at : ℕ) (x : WithIgnored) (was remaining : Option (List ℕ)) (k : ℕ)
    (payload hand : List ℕ) (f : GdsKind) (to : ReadTo (gds profile) xs at (HasReadBy profile x) was)
    → x.reading.builder.stage ≢ Fill
    → IsSpelledAt profile.ignore (profile.limits.file - at) (drop at xs) k payload
    → ((d : ℕ) → BreachesBy profile to.records (record_of k d payload) f
    × BreachesOnlyBy profile to.records (record_of k d payload) f)
    → prepend_known hand remaining ≡ Some (drop (4 + length payload) (drop at xs)) → RefusesAt profile xs remaining at f
reads_refused profile xs at x was remaining k payload hand f to go s breaches e =
    let room = profile.limits.file - at in
    let r : Rec = record_of k s.0 payload in
    let b = breaches s.0 in
    let o = of_record profile to.records r f b.0 in
    let n = has_unwhole profile x to.records to.holds go in
    let long = length_spelled s.1 payload k s.0 s.4 in
    let rest = (parts_at (drop at xs) s.1 s.2 (4 + length payload) s.6 (sym long)).1 in
    let l = left_parts s.2 hand remaining (e ∙ ap (λ (i : List ℕ). Some i) rest) in
    let begins : StartsWith profile room (drop at xs) r = starts profile room (drop at xs) k payload s in
    seen_refuses profile xs at remaining f o (record {
      within = to.within;
      records = to.records;
      front = to.front;
      seen = s.1 ++ hand;
      rest = l.rest;
      parts = s.6 ∙ ap (λ i. s.1 ++ i) l.parts ∙ sym (append_assoc s.1 hand l.rest);
      left_is = l.is;
      wrong = λ more. wrong_record profile to.records room ((s.1 ++ hand) ++ more) r f o n
          (s.1, hand ++ more, s.3, s.4, begins.4, append_assoc s.1 hand more) b.0;
      only = only_record profile to.records room (drop at xs) r f n begins b.1;
    })

same_fault : (f g : RecordFault) (s : Result ℕ RecordFault) → s ≡ Err f → s ≡ Err g → g ≡ f
same_fault f g s a b = (let h : Err f ≡ Err g = sym a ∙ b in cc)

no_start : (profile : Profile) (before : List Rec) (room : ℕ) (ys : List ℕ) (f : RecordFault)
    → step profile.ignore room ys ≡ Err f → f ≢ Truncated
    → (r : Rec) → StartsWith profile room ys r → ⊥
no_start profile before room ys f e t r s =
    law_malformed profile.ignore room ys f e t r.kind r.data_type r.payload s.0 s.2 s.3
    (omega (arith, s.4, length_spelled s.0 r.payload r.kind r.data_type s.3)) (s.1, inr s.5)

-- if no record begins the bytes, that is their only fault
only_fault : (profile : Profile) (before : List Rec) (room : ℕ) (ys : List ℕ) (f : RecordFault)
    → step profile.ignore room ys ≡ Err f → f ≢ Truncated
    → (IsWholeBy profile before → room ≡ 0) → (j : GdsKind) → IsWrong profile before room ys j → j ≡ Record f
only_fault profile before room ys f e t z (Record g) w =
    ap (λ (i : RecordFault). Record i) (same_fault f g (step profile.ignore room ys) e w.2)
only_fault profile before room ys f e t z AfterEnd w = absurd (omega (arith, z w.0, w.1))
only_fault profile before room ys f e t z _ w = absurd (no_start profile before room ys f e t w.1 w.2)

-- a fault of the bytes in hand
seen_fault : (profile : Profile) (xs : List ℕ) (at : ℕ) (Has : List Rec → Type 0) (was remaining : Option (List ℕ))
    (hand : List ℕ)
    (f : RecordFault) (to : ReadTo (gds profile) xs at Has was)
    → f ≢ Truncated → f ≢ Read
    → (IsWholeBy profile to.records → profile.limits.file - at ≡ 0)
    → ((more : List ℕ) → step profile.ignore (profile.limits.file - at) (hand ++ more) ≡ Err f)
    → prepend_known hand remaining ≡ Some (drop at xs) → IsSeenWrong (gds_faults profile) xs at remaining (Record f)
seen_fault profile xs at Has was remaining hand f to t r z said e =
    let l = left_parts (drop at xs) hand remaining e in
    let all : step profile.ignore (profile.limits.file - at) (drop at xs) ≡ Err f =
    subst (λ i. step profile.ignore (profile.limits.file - at) i ≡ Err f) (sym l.parts)
    (said l.rest) in
    record {
      within = to.within;
      records = to.records;
      front = to.front;
      seen = hand;
      rest = l.rest;
      parts = l.parts;
      left_is = l.is;
      wrong = λ more. (t, r, said more, z);
      only = only_fault profile to.records (profile.limits.file - at) (drop at xs) f all t z;
    }

-- the input ends before ENDLIB
pub reads_cut : (profile : Profile) (xs : List ℕ) (at : ℕ) (x : WithIgnored) (was : Option (List ℕ))
    → ReadTo (gds profile) xs at (HasReadBy profile x) was
    → x.reading.builder.stage ≢ Fill → (length (drop at xs) < 4) ⊎ IsBegun profile.ignore (drop at xs)
    → IsTruncated (gds_faults profile) xs at
reads_cut profile xs at x was to go cut = record {
  within = to.within;
  records = to.records;
  front = to.front;
  unended = has_unwhole profile x to.records to.holds go;
  cut = cut;
}

-- what a fault of the bytes of a record says
pub reads_fault : (profile : Profile) (xs : List ℕ) (at : ℕ) (x : WithIgnored) (was remaining : Option (List ℕ))
    (hand : List ℕ)
    (f : RecordFault)
    → ReadTo (gds profile) xs at (HasReadBy profile x) was → x.reading.builder.stage ≢ Fill
    → (f ≢ Truncated → f ≢ Read → (more : List ℕ) → step profile.ignore (profile.limits.file - at) (hand ++ more) ≡ Err f)
    → (f ≡ Truncated → (length (drop at xs) < 4) ⊎ IsBegun profile.ignore (drop at xs))
    → (f ≡ Read → IsUnfinished profile.ignore (profile.limits.file - at) hand)
    → prepend_known hand remaining ≡ Some (drop at xs) → RefusesAt profile xs remaining at (Record f)
reads_fault profile xs at x was remaining hand f to go said cut unread e = by f refl
  where
    known : f ≢ Truncated → f ≢ Read → IsSeenWrong (gds_faults profile) xs at remaining (Record f)
    known t r = seen_fault profile xs at (HasReadBy profile x) was remaining hand f to t r
        (λ w. absurd (has_unwhole profile x to.records to.holds go w)) (said t r) e

    by : (g : RecordFault) → g ≡ f → RefusesAt profile xs remaining at (Record g)
    by Truncated i = reads_cut profile xs at x was to go (cut (sym i))
    by Read i =
        let l = left_parts (drop at xs) hand remaining e in
        reads_unread (gds_faults profile) xs at (HasReadBy profile x) was remaining to hand l.rest l.parts l.is
        (λ some. ((unread (sym i)).1 some).1)
    by BadLength i = subst (λ (h : RecordFault). IsSeenWrong (gds_faults profile) xs at remaining (Record h)) (sym i)
        (known (λ z. (let y : BadLength ≡ Truncated = i ∙ z in cc)) (λ z. (let y : BadLength ≡ Read = i ∙ z in cc)))
    by BadDataType i = subst (λ (h : RecordFault). IsSeenWrong (gds_faults profile) xs at remaining (Record h)) (sym i)
        (known (λ z. (let y : BadDataType ≡ Truncated = i ∙ z in cc)) (λ z. (let y : BadDataType ≡ Read = i ∙ z in cc)))
    by UnknownRecord i = subst (λ (h : RecordFault). IsSeenWrong (gds_faults profile) xs at remaining (Record h)) (sym i)
        (known (λ z. (let y : UnknownRecord ≡ Truncated = i ∙ z in cc))
        (λ z. (let y : UnknownRecord ≡ Read = i ∙ z in cc)))
    by TooLong i = subst (λ (h : RecordFault). IsSeenWrong (gds_faults profile) xs at remaining (Record h)) (sym i)
        (known (λ z. (let y : TooLong ≡ Truncated = i ∙ z in cc)) (λ z. (let y : TooLong ≡ Read = i ∙ z in cc)))

-- one more zero byte after ENDLIB
reads_zero : (profile : Profile) (xs : List ℕ) (at : ℕ) (b : Builder) (was : Option (List ℕ)) (rest : List ℕ)
    → ReadTo (gds profile) xs at (HoldsBy profile b) was → b.stage ≡ Fill → drop at xs ≡ 0 ∷ rest → at + 1 ≤ profile.limits.file
    → ReadTo (gds profile) xs (at + 1) (HoldsBy profile b) (Some rest)
reads_zero profile xs at b was rest to e here limit =
    let stays : after b.stage fill ≡ Some b.stage =
    ap (λ p. after p fill) e ∙ ap (λ (p : LibraryStage). Some p) (sym e) in
    let es = essential profile to.records in
    let more : Holds b (es ++ a_fill ∷ []) = law_holds b b es a_fill to.holds.essential stays
    (sym (plain fill [] (shown b) refl refl)) (record { version = refl; units = refl }) in
    reads_on (gds profile) xs at (HoldsBy profile b) (HoldsBy profile b) was to a_fill (0 ∷ []) rest here
    (inr (refl, refl))
    (follows_essential profile to.records a_fill (fill_unpassed profile) to.holds.complete
    (law_fill profile es (leads_begins (kinds (es ++ a_fill ∷ [])) b.stage more.leads)))
    (omega (arith, limit)) (record {
      essential = subst (Holds b) (sym (essential_kept profile to.records a_fill (fill_unpassed profile))) more;
      complete = λ w. fill_waits to.records w;
    })

-- zero bytes after ENDLIB
reads_zeros : (profile : Profile) (n : ℕ) (xs : List ℕ) (at : ℕ) (b : Builder) (was : Option (List ℕ)) (rest : List ℕ)
    → ReadTo (gds profile) xs at (HoldsBy profile b) was → b.stage ≡ Fill → drop at xs ≡ replicate n 0 ++ rest
    → at + n ≤ profile.limits.file
    → (left' : Option (List ℕ)) × ReadTo (gds profile) xs (at + n) (HoldsBy profile b) left' × (drop (at + n) xs ≡ rest)
reads_zeros profile zero xs at b was rest to e here limit =
    let z : at ≡ at + 0 = omega arith in
    (was, subst (λ i. ReadTo (gds profile) xs i (HoldsBy profile b) was) z to, subst (λ i. drop i xs ≡ rest) z here)
reads_zeros profile (suc n) xs at b was rest to e here limit =
    let one = reads_zero profile xs at b was (replicate n 0 ++ rest) to e here (omega (arith, limit)) in
    let more = reads_zeros profile n xs (at + 1) b (Some (replicate n 0 ++ rest)) rest one e
    (same_left (drop (at + 1) xs) (replicate n 0 ++ rest) (Some (replicate n 0 ++ rest)) one.left_is refl)
    (omega (arith, limit)) in
    let z : at + 1 + n ≡ at + suc n = omega arith in (
      more.0,
      subst (λ i. ReadTo (gds profile) xs i (HoldsBy profile b) more.0) z more.1,
      subst (λ i. drop i xs ≡ rest) z more.2,
    )

-- the end of the input
pub reads_all : (profile : Profile) (xs : List ℕ) (at : ℕ) (b : Builder) (was : Option (List ℕ))
    → ReadTo (gds profile) xs at (HoldsBy profile b) was
    → b.stage ≡ Fill → drop at xs ≡ replicate (length (drop at xs)) 0 → at + length (drop at xs) ≤ profile.limits.file
    → IsRead profile xs (done b) (record { version = b.version; units = b.units })
reads_all profile xs at b was to e zeros limit =
    let more = reads_zeros profile (length (drop at xs)) xs at b was [] to e
    (zeros ∙ sym (append-nil (replicate (length (drop at xs)) 0))) limit in
    let end = more.1 in
    let n : at + length (drop at xs) ≡ length xs = omega (arith, length-drop at xs, to.within) in
    let all : take (at + length (drop at xs)) xs ≡ xs =
    (parts_at xs xs [] (at + length (drop at xs)) (sym (append-nil xs)) n).0 in
    let h : GdsHead = record { version = b.version; units = b.units } in
    let spelled : SpellsLibrary profile xs (drawings (essential profile end.records)) h = record {
      records = end.records;
      whole = record {
        front = subst (λ l. IsFront (gds profile) l end.records) all end.front;
        whole = holds_whole profile b end.records end.holds e;
      };
      cells_are = refl;
      head_is = ap (λ (i : ℤ). let g : GdsHead = record { version = i; units = b.units } in
          g) end.holds.essential.version
          ∙ ap (λ (i : List (List ℕ)). let g : GdsHead = record {
            version = short (field header (essential profile end.records));
            units = i;
          } in g) (end.holds.essential.units (ap has_units e));
    } in
    record {
      cells = drawings (essential profile end.records);
      spelled = spelled;
      only = λ ds g p. law_only profile xs (drawings (essential profile end.records)) ds h g spelled p;
      kept_as = sym (ap (λ p. shown_at p b) e) ∙ end.holds.essential.shown;
    }

drop_zeros : (n : ℕ) (ys : List ℕ) → drop n (replicate n 0 ++ ys) ≡ ys
drop_zeros zero ys = refl
drop_zeros (suc n) ys = drop_zeros n ys

some_hand : (hand rest ys : List ℕ) (c : ℕ) → 0 < length hand → c ∷ rest ≡ hand ++ ys → (more : List ℕ)
    → (tail : List ℕ) × (hand ++ more ≡ c ∷ tail)
some_hand [] rest ys c h e more = absurd (omega (arith, h))
some_hand (i ∷ hand) rest ys c h e more =
    (let same : c ≡ i = cc in (hand ++ more, ap (λ j. j ∷ (hand ++ more)) (sym same)))

only_other : (profile : Profile) (before : List Rec) (room : ℕ) (ys : List ℕ) → IsWholeBy profile before → 0 < room
    → (j : GdsKind)
    → IsWrong profile before room ys j → j ≡ AfterEnd
only_other profile before room ys w l (Record f) x = absurd (omega (arith, l, x.3 w))
only_other profile before room ys w l AfterEnd x = refl
only_other profile before room ys w l _ x = absurd (x.0 w)

-- another byte after ENDLIB
pub reads_other : (profile : Profile) (xs : List ℕ) (at n : ℕ) (b : Builder) (was remaining : Option (List ℕ)) (c : ℕ)
    (rest hand : List ℕ)
    → ReadTo (gds profile) xs at (HoldsBy profile b) was → b.stage ≡ Fill → drop at xs ≡ replicate n 0 ++ (c ∷ rest)
    → c ≢ 0
    → n < profile.limits.file - at
    → 0 < length hand → prepend_known hand remaining ≡ Some (drop n (drop at xs))
    → RefusesAt profile xs remaining (at + n) AfterEnd
reads_other profile xs at n b was remaining c rest hand to e here other room some known =
    let more = reads_zeros profile n xs at b was (c ∷ rest) to e here (omega (arith, room)) in
    let end = more.1 in
    let w = holds_whole profile b end.records end.holds e in
    let after : drop n (drop at xs) ≡ c ∷ rest = ap (drop n) here ∙ drop_zeros n (c ∷ rest) in
    let l = left_parts (c ∷ rest) hand remaining (known ∙ ap (λ (i : List ℕ). Some i) after) in
    let space : 0 < profile.limits.file - (at + n) = omega (arith, room) in
    record {
      within = end.within;
      records = end.records;
      front = end.front;
      seen = hand;
      rest = l.rest;
      parts = more.2 ∙ l.parts;
      left_is = l.is;
      wrong = λ z. (let t = some_hand hand rest l.rest c some l.parts z in (w, space, c, t.0, other, t.1));
      only = only_other profile end.records (profile.limits.file - (at + n)) (drop (at + n) xs) w space;
    }

-- the input passes the limit after ENDLIB
pub reads_too_long : (profile : Profile) (xs : List ℕ) (at : ℕ) (b : Builder) (was remaining : Option (List ℕ))
    (rest hand : List ℕ)
    → ReadTo (gds profile) xs at (HoldsBy profile b) was → b.stage ≡ Fill → at ≤ profile.limits.file
    → drop at xs ≡ replicate (profile.limits.file - at) 0 ++ rest
    → ((more : List ℕ) → step profile.ignore (profile.limits.file - (at + (profile.limits.file - at))) (hand ++ more) ≡ Err TooLong)
    → prepend_known hand remaining ≡ Some (drop (profile.limits.file - at) (drop at xs))
    → RefusesAt profile xs remaining (at + (profile.limits.file - at)) (Record TooLong)
reads_too_long profile xs at b was remaining rest hand to e limit here said known =
    let n = profile.limits.file - at in
    let more = reads_zeros profile n xs at b was rest to e here (omega (arith, limit)) in
    let after : drop n (drop at xs) ≡ drop (at + n) xs = ap (drop n) here ∙ drop_zeros n rest ∙ sym more.2 in
    seen_fault profile xs (at + n) (HoldsBy profile b) more.0 remaining hand TooLong more.1 (λ z. cc) (λ z. cc)
    (λ w. omega (arith, limit)) said (known ∙ ap (λ (i : List ℕ). Some i) after)

-- the reader failed after ENDLIB, and all that it gave was taken
pub reads_failed : (profile : Profile) (xs : List ℕ) (at n : ℕ) (b : Builder) (was remaining : Option (List ℕ))
    (rest : List ℕ)
    → ReadTo (gds profile) xs at (HoldsBy profile b) was → b.stage ≡ Fill → drop at xs ≡ replicate n 0 ++ rest
    → n ≤ profile.limits.file - at
    → at ≤ profile.limits.file → remaining ≡ Some (drop n (drop at xs)) → IsUnread (gds_faults profile) xs remaining (at + n)
reads_failed profile xs at n b was remaining rest to e here room limit left =
    let more = reads_zeros profile n xs at b was rest to e here (omega (arith, room, limit)) in
    let after : drop n (drop at xs) ≡ drop (at + n) xs = ap (drop n) here ∙ drop_zeros n rest ∙ sym more.2 in
    reads_unread (gds_faults profile) xs (at + n) (HoldsBy profile b) more.0 remaining more.1 [] (drop (at + n) xs) refl
    (left ∙ ap (λ (i : List ℕ). Some i) after) (λ some. absurd (omega (arith, some)))

-- a rule that a record breaches isn't a failed read
pub breach_no_read : (profile : Profile) (before : List Rec) (r : Rec) (k : GdsKind) → BreachesBy profile before r k
    → is_read_kind k ≡ false
breach_no_read profile before r (Record f) b = absurd b.2
breach_no_read profile before r other b = refl

-- a refusal by a fault and its offset
pub refuses_by : (profile : Profile) (xs : List ℕ) (rest : Option (List ℕ)) (e : Cause GdsFault) (offset at : ℕ)
    (k : GdsKind)
    → e ≡ Breach (record { offset = offset; kind = k }) → offset ≡ at → RefusesAt profile xs rest at k
    → Says e (Refuses profile xs rest)
refuses_by profile xs rest e offset at k h o x =
    subst (λ (i : Cause GdsFault). Says i (Refuses profile xs rest)) (sym h)
    (subst (λ i. RefusesAt profile xs rest i k) (sym o) x)

-- what another byte after ENDLIB says, once `tail` has returned its offset
pub reads_after : (profile : Profile) (xs : List ℕ) (at n : ℕ) (b : Builder) (was remaining : Option (List ℕ)) (c : ℕ)
    (rest hand : List ℕ)
    → ReadTo (gds profile) xs at (HoldsBy profile b) was → b.stage ≡ Fill → drop at xs ≡ replicate n 0 ++ (c ∷ rest)
    → c ≢ 0
    → n < profile.limits.file - at
    → 0 < length hand → ((ys : List ℕ) → was ≡ Some ys → prepend_known hand remaining ≡ Some (drop n ys))
    → RefusesAt profile xs remaining (at + n) AfterEnd
reads_after profile xs at n b was remaining c rest hand to e here other room some left =
    reads_other profile xs at n b was remaining c rest hand to e here other room some (left (drop at xs) to.left_is)

-- what a fault after ENDLIB says
pub reads_tail : (profile : Profile) (xs : List ℕ) (at new : ℕ) (b : Builder) (was remaining : Option (List ℕ))
    (hand : List ℕ)
    (f : RecordFault)
    → ReadTo (gds profile) xs at (HoldsBy profile b) was → b.stage ≡ Fill → at ≤ profile.limits.file
    → AnswersTail (Err (Fault f)) at new (profile.limits.file - at) (drop at xs) → Decides profile.ignore f (profile.limits.file - new) hand
    → (f ≡ Read → prepend_known hand remaining ≡ remaining)
    → ((ys : List ℕ) → was ≡ Some ys → prepend_known hand remaining ≡ Some (drop (new - at) ys))
    → RefusesAt profile xs remaining new (Record f)
reads_tail profile xs at new b was remaining hand TooLong to e limit x said starved left =
    let n : new - at ≡ profile.limits.file - at = omega (arith, x.1) in
    subst (λ i. RefusesAt profile xs remaining i (Record TooLong)) (sym x.1)
    (reads_too_long profile xs at b was remaining x.0.0 hand to e limit x.0.2
    (subst (λ i. (more : List ℕ) → step profile.ignore (profile.limits.file - i) (hand ++ more) ≡ Err TooLong) x.1
    (said (λ z. cc) (λ z. cc)))
    (left (drop at xs) to.left_is ∙ ap (λ i. Some (drop i (drop at xs))) n))
reads_tail profile xs at new b was remaining hand Read to e limit x said starved left =
    let n : new - at ≡ x.0 = omega (arith, x.4) in
    subst (IsUnread (gds_faults profile) xs remaining) (sym x.4)
    (reads_failed profile xs at x.0 b was remaining x.1 to e x.3 x.2 limit
    (sym (starved refl) ∙ left (drop at xs) to.left_is ∙ ap (λ i. Some (drop i (drop at xs))) n))
reads_tail profile xs at new b was remaining hand other to e limit x said starved left = absurd x
