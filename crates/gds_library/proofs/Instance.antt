-- GDSII has the properties that the laws of streams need of a format.
use Rattle.lvl_profile.specs.declared.profile.Profile.{Profile}
use Rattle.std.proofs.Common.{◌≡◌, ◌≢◌, ℕ, ◌<◌, ◌≤◌, ◌⊎◌, List, [], ◌∷◌, ◌++◌, length, Err, refl, sym, ap, ◌∙◌, subst}
use Rattle.std.proofs.Common.{append_assoc, true, false, inl, inr, arith, length-append}
use Rattle.std.proofs.lemmas.List.{append-nil}
use Rattle.lvl_io.specs.Known.{Agree}
use Rattle.lvl_grammar.specs.Order.{Order, one, many, ◌then◌, Begins}
use Rattle.lvl_grammar.proofs.Agreeing.{agree_ends}
use Rattle.lvl_grammar.proofs.Fills.{fill_alone, fill_ends, fill_more}
use Rattle.lvl_grammar.proofs.Laws.{IsGrammar, AreFaults}
use Rattle.gds_records.specs.Spelled.{IsSpelling, IsBegun}
use Rattle.gds_records.specs.Step.{step}
use Rattle.gds_records.specs.declared.fault.RecordFault.{RecordFault}
use Rattle.gds_records.proofs.Laws.{law_malformed, length_spelled}
use Rattle.gds_elements.specs.Types.{header, bgnlib, libname, units, endlib}
use Rattle.gds_elements.specs.Rec.{Rec, kinds}
use Rattle.gds_elements.proofs.Fields.{kinds-snoc}
use Rattle.gds_library.specs.Types.{fill}
use Rattle.gds_library.specs.Order.{a_library, a_structure}
use Rattle.gds_library.specs.Rec.{Spells}
use Rattle.gds_library.specs.Rules.{IsWhole, InOrder}
use Rattle.gds_library.specs.Ignoring.{essential, IsWholeBy, InOrderBy, BreachesBy, MayFollowBy}
use Rattle.gds_library.proofs.Passing.{fill_unpassed, follows_kept}
use Rattle.gds_library.specs.Front.{gds}
use Rattle.gds_library.specs.Faults.{StartsWith, IsWrong, gds_faults}
use Rattle.gds_library.specs.declared.fault.GdsKind.{GdsKind}
use Rattle.gds_library.specs.declared.fault.GdsKind.TheVariants.{Record, Misplaced, Element, Name, AfterEnd}
use Rattle.gds_library.specs.declared.fault.GdsKind.TheVariants.{TooManyCells}
use Rattle.gds_library.proofs.Spellings.{one_record, spells_once, spells_some, a_fill}

-- a library up to its end
abbrev a_body : Order
a_body = one header then one bgnlib then one libname then one units then many a_structure

no_end : fill ≢ endlib
no_end e = omega (arith, e)

in_order : (before : List Rec) (r : Rec) → InOrder before r → Begins a_library (kinds before ++ r.kind ∷ [])
in_order before r g = subst (Begins a_library) (kinds-snoc before r) g

-- if a zero byte may come, the library is whole
fill_whole_of : (before : List Rec) → InOrder before a_fill → IsWhole before
fill_whole_of before g =
    fill_ends a_body endlib fill (kinds before) refl no_end (in_order before a_fill g)

pub fill_whole : (profile : Profile) (before : List Rec) → InOrderBy profile before a_fill → IsWholeBy profile before
fill_whole profile before g = elim g [
  | inl p ↦ (let z : true ≡ false = sym p.0 ∙ fill_unpassed profile in cc)
  | inr e ↦ fill_whole_of (essential profile before) e.ordered
]

-- after a whole library only zero bytes may come
whole_alone_of : (before : List Rec) (r : Rec) → IsWhole before → InOrder before r → r.kind ≡ fill
whole_alone_of before r w g =
    fill_alone a_body endlib fill r.kind (kinds before) refl refl no_end (fill_more a_body endlib fill (kinds before) w)
    (in_order before r g)

pub whole_alone : (profile : Profile) (before : List Rec) (r : Rec) → IsWholeBy profile before
    → InOrderBy profile before r → r.kind ≡ fill
whole_alone profile before r w g = elim g [
  | inl p ↦ absurd (p.1.unended w)
  | inr e ↦ whole_alone_of (essential profile before) r w e.ordered
]

-- after the same records, bytes that begin alike spell the same record
same_next : (profile : Profile) (before : List Rec) (r s : Rec) (a b x y : List ℕ) → Spells profile a r → Spells profile b s
    → MayFollowBy profile before r
    → MayFollowBy profile before s → a ++ x ≡ b ++ y → r ≡ s
same_next profile before r s a b x y p q f g e = elim p [
  | inl i ↦ elim q [
    | inl j ↦ one_record a b x y r s i.1 j.1 e
    | inr j ↦ (let z = whole_alone profile before r (fill_whole profile before (subst (InOrderBy profile before) j.0 g.0))
        f.0 in
        absurd (omega (arith, z, i.0.known)))
  ]
  | inr i ↦ elim q [
    | inl j ↦ (let z = whole_alone profile before s (fill_whole profile before (subst (InOrderBy profile before) i.0 f.0))
        g.0 in
        absurd (omega (arith, z, j.0.known)))
    | inr j ↦ i.0 ∙ sym j.0
  ]
]

-- an empty list of bytes has no fault
pub some_bytes : (profile : Profile) (room : ℕ) (ys : List ℕ) (f : RecordFault) → step profile.ignore room ys ≡ Err f
    → 0 < length ys
unfolding step
some_bytes profile room [] f e = cc
some_bytes profile room (y ∷ ys) f e = omega arith

starts_some : (profile : Profile) (room : ℕ) (ys : List ℕ) (r : Rec) → StartsWith profile room ys r → 0 < length ys
starts_some profile room ys r s =
    omega (arith, length_spelled s.0 r.payload r.kind r.data_type s.3, ap length s.5, length-append s.0 s.1)

wrong_here : (profile : Profile) (before : List Rec) (room : ℕ) (ys : List ℕ) (k : GdsKind)
    → IsWrong profile before room ys k → 0 < length ys
wrong_here profile before room ys (Record f) w = some_bytes profile room ys f w.2
wrong_here profile before room ys AfterEnd w = omega (arith, ap length w.5)
wrong_here profile before room ys other w = starts_some profile room ys w.1 w.2

-- two records that begin the same bytes are the same
pub starts_same : (profile : Profile) (room : ℕ) (ys text : List ℕ) (r s : Rec) → StartsWith profile room ys r
    → IsSpelling text s.kind s.data_type s.payload → Agree text ys → s ≡ r
starts_same profile room ys text r s h p agree =
    let q = agree_ends text ys agree in
    one_record text h.0 q.0 (h.1 ++ q.1) s r p h.3 (q.2 ∙ ap (λ l. l ++ q.1) h.5 ∙ append_assoc h.0 h.1 q.1)

stops_record : (profile : Profile) (before : List Rec) (room : ℕ) (ys text : List ℕ) (s : Rec) (k : GdsKind)
    → (IsWholeBy profile before → ⊥)
    → (r : Rec) × StartsWith profile room ys r × BreachesBy profile before r k
    → Spells profile text s → MayFollowBy profile before s → Agree text ys → ⊥
stops_record profile before room ys text s k n w p f agree = elim p [
  | inl i ↦ follows_kept profile before s k f (subst (λ (x : Rec). BreachesBy profile before x k)
      (sym (starts_same profile room ys text w.0 s w.1 i.1 agree)) w.2)
  | inr i ↦ n (fill_whole profile before (subst (InOrderBy profile before) i.0 f.0))
]

-- if a rule is breached, no record may follow
wrong_stops : (profile : Profile) (before : List Rec) (room : ℕ) (ys text : List ℕ) (s : Rec) (k : GdsKind)
    → IsWrong profile before room ys k
    → Spells profile text s → MayFollowBy profile before s → Agree text ys → length text ≤ room → ⊥
wrong_stops profile before room ys text s (Record f) w p g agree fits = elim p [
  | inl i ↦ law_malformed profile.ignore room ys f w.2 w.0 s.kind s.data_type s.payload text i.0 i.1
      (omega (arith, fits, length_spelled text s.payload s.kind s.data_type i.1)) agree
  | inr i ↦ (let z = w.3 (fill_whole profile before (subst (InOrderBy profile before) i.0 g.0)) in
      omega (arith, z, fits, ap length i.1))
]
wrong_stops profile before room ys text s AfterEnd w p g agree fits = elim p [
  | inl i ↦ (let z = whole_alone profile before s w.0 g.0 in omega (arith, z, i.0.known))
  | inr i ↦
      let q = agree_ends text ys agree in
      let z : (0 ∷ []) ++ q.0 ≡ (w.2 ∷ w.3) ++ q.1 = ap (λ l. l ++ q.0) (sym i.1) ∙ q.2 ∙ ap (λ l. l ++ q.1) w.5 in
      w.4 (let h : w.2 ≡ 0 = cc in h)
]
wrong_stops profile before room ys text s (Misplaced m) w p g agree fits =
    stops_record profile before room ys text s (Misplaced m) w.0 (w.1, w.2, w.3) p g agree
wrong_stops profile before room ys text s (Element k) w p g agree fits =
    stops_record profile before room ys text s (Element k) w.0 (w.1, w.2, w.3) p g agree
wrong_stops profile before room ys text s Name w p g agree fits =
    stops_record profile before room ys text s Name w.0 (w.1, w.2, w.3) p g agree
wrong_stops profile before room ys text s TooManyCells w p g agree fits =
    stops_record profile before room ys text s TooManyCells w.0 (w.1, w.2, w.3) p g agree

-- bytes that end within a record begin with no record
cut_none : (profile : Profile) (ys text rest : List ℕ) (r : Rec) → IsSpelling text r.kind r.data_type r.payload
    → ys ≡ text ++ rest
    → (length ys < 4) ⊎ IsBegun profile.ignore ys → ⊥
cut_none profile ys text rest r s e cut = elim cut [
  | inl l ↦ omega (arith, l, ap length e, length-append text rest, length_spelled text r.payload r.kind r.data_type s)
  | inr b ↦
      let t : Rec = record { kind = b.kind; data_type = b.data_type; payload = b.payload } in
      let same : r ≡ t = one_record text (ys ++ b.more) (rest ++ b.more) [] r t s b.spelled
      (sym (append_assoc text rest b.more) ∙ ap (λ l. l ++ b.more) (sym e) ∙ sym (append-nil (ys ++ b.more))) in
      omega (
        arith,
        ap (λ (i : Rec). length i.payload) same,
        length_spelled text r.payload r.kind r.data_type s,
        length_spelled (ys ++ b.more) b.payload b.kind b.data_type b.spelled,
        length-append ys b.more,
        b.short,
        ap length e,
        length-append text rest,
      )
]

pub is_grammar : (profile : Profile) → IsGrammar (gds profile)
is_grammar profile = record {
  decided = λ before r s a b x y p q f g e.
      let same = same_next profile before r s a b x y p q f g e in
      (spells_once profile a b s (subst (Spells profile a) same p) q, same);
  some = λ before a r p. spells_some profile a r p;
}

pub are_faults : (profile : Profile) → AreFaults (gds_faults profile)
are_faults profile = record {
  grammar = is_grammar profile;
  here = wrong_here profile;
  stops = λ before room ys text r k. wrong_stops profile before room ys text r k;
  cut = λ before ys text rest r c n p f e. elim p [
    | inl i ↦ cut_none profile ys text rest r i.1 e c
    | inr i ↦ n (fill_whole profile before (subst (InOrderBy profile before) i.0 f.0))
  ];
}
