-- A stream that is accepted under a profile is accepted under each wider one, with the same meaning.
use Rattle.std.proofs.Common.{◌≡◌, ◌==◌, inl, inr, ℕ, Bool, true, false, if◌then◌else◌, List, [], ◌∷◌, ◌++◌, Some}
use Rattle.std.proofs.Common.{None, refl, sym, ap, ◌∙◌, subst, arith, length, append_assoc, ◌⊎◌}
use Rattle.std.proofs.lemmas.List.{append-nil}
use Rattle.std.specs.Prelude.{Option, is_some, ◌&&◌}
use Rattle.lvl_profile.specs.Ignored.{IsSubsetOf}
use Rattle.lvl_profile.specs.Profiles.{IsWider}
use Rattle.lvl_profile.specs.declared.ignore.Ignore.{Ignore}
use Rattle.lvl_profile.specs.declared.profile.Profile.{Profile}
use Rattle.lvl_grammar.specs.Front.{SpellsAll, FollowAll}
use Rattle.lvl_grammar.proofs.Orders.{by_test}
use Rattle.gds_records.specs.Table.{Row, table, property_rows, name_rows, ignored_rows, form_among, form_of, is_ignored}
use Rattle.gds_records.specs.Spelled.{IsOfForm}
use Rattle.gds_records.specs.declared.form.Form.{Form}
use Rattle.gds_elements.specs.Rec.{Rec, an_end, is_opener}
use Rattle.gds_elements.specs.Rules.{IsKnown, ValueBreaches}
use Rattle.gds_elements.specs.declared.fault.ElementRule.{ElementRule}
use Rattle.gds_elements.specs.declared.fault.ElementRule.TheVariants.{Repetition, Path}
use Rattle.gds_elements.specs.Meaning.{half_of, end_of}
use Rattle.gds_elements.specs.Values.{points}
use Rattle.lvl_path.proofs.Repeating.{fault_grows}
use Rattle.gds_library.specs.Types.{reflibs, fonts, generations, attrtable, elflags, propattr, propvalue, plex}
use Rattle.gds_library.specs.Types.{strclass, format, libdirsize, srfname, libsecur}
use Rattle.gds_library.specs.Rec.{Spells, last_piece}
use Rattle.gds_library.specs.Rules.{IsWhole, InOrder, KeepsRules, MayFollow}
use Rattle.gds_library.specs.Ignoring.{is_passed, essential, MayFollowBy}
use Rattle.gds_library.specs.Front.{gds, SpellsLibrary}
use Rattle.gds_library.specs.Values.{drawings, head}
use Rattle.gds_library.specs.Drawn.{Drawing}
use Rattle.gds_library.specs.declared.head.GdsHead.{GdsHead}
use Rattle.gds_library.proofs.Spellings.{a_fill}
use Rattle.gds_library.proofs.Passing.{essential_kept, essential_passed, fill_unpassed, follows_passed}
use Rattle.gds_library.proofs.Passing.{follows_essential}
use Rattle.gds_library.proofs.Known.{ordered_known}

-- the form of a type among two lists of rows
form_left : (xs ys : List Row) (k : ℕ) (f : Form) → form_among xs k ≡ Some f → form_among (xs ++ ys) k ≡ Some f
form_left [] ys k f e = (let z : None ≡ Some f = e in cc)
form_left (x ∷ xs) ys k f e = go (k == x.kind) (form_left xs ys k f) e
  where
    go : (b : Bool) → (form_among xs k ≡ Some f → form_among (xs ++ ys) k ≡ Some f)
        → (if b then Some x.form else form_among xs k) ≡ Some f
        → (if b then Some x.form else form_among (xs ++ ys) k) ≡ Some f
    go true more h = h
    go false more h = more h

form_right : (xs ys : List Row) (k : ℕ) → form_among xs k ≡ None → form_among (xs ++ ys) k ≡ form_among ys k
form_right [] ys k e = refl
form_right (x ∷ xs) ys k e = go (k == x.kind) (form_right xs ys k) e
  where
    go : (b : Bool) → (form_among xs k ≡ None → form_among (xs ++ ys) k ≡ form_among ys k)
        → (if b then Some x.form else form_among xs k) ≡ None
        → (if b then Some x.form else form_among (xs ++ ys) k) ≡ form_among ys k
    go true more h = (let z : Some x.form ≡ None = h in cc)
    go false more h = more h

-- a type that `names` ignores isn't one that `properties` ignores
apart : (k : ℕ) (f : Form) → form_among name_rows k ≡ Some f → form_among property_rows k ≡ None
apart k f =
    by_test (λ i. form_among name_rows i ≡ Some f → form_among property_rows i ≡ None) k attrtable (k == attrtable) refl
    (λ e. (let z : None ≡ Some f = e in cc))
    (λ a. by_test (λ i. form_among name_rows i ≡ Some f → form_among property_rows i ≡ None) k propattr (k == propattr)
    refl (λ e. (let z : None ≡ Some f = e in cc))
    (λ b. by_test (λ i. form_among name_rows i ≡ Some f → form_among property_rows i ≡ None) k propvalue
    (k == propvalue) refl (λ e. (let z : None ≡ Some f = e in cc)) (λ c e. rw (a, b, c) refl)))

-- the rows of two sets, of which one is within the other
grown_rows : (p p' n n' : Bool) (k : ℕ) (f : Form) → (p ≡ true → p' ≡ true) → (n ≡ true → n' ≡ true)
    → form_among ((if p then property_rows else []) ++ (if n then name_rows else [])) k ≡ Some f
    → form_among ((if p' then property_rows else []) ++ (if n' then name_rows else [])) k ≡ Some f
grown_rows true false n n' k f g h e = (let z : false ≡ true = g refl in cc)
grown_rows p p' true false k f g h e = (let z : false ≡ true = h refl in cc)
grown_rows true true true true k f g h e = e
grown_rows true true false false k f g h e = e
grown_rows true true false true k f g h e = go (form_among property_rows k) refl
  where
    go : (o : Option Form) → form_among property_rows k ≡ o → form_among (property_rows ++ name_rows) k ≡ Some f
    go (Some i) q =
        let s : Some i ≡ Some f = sym (form_left property_rows [] k i q) ∙ e in
        form_left property_rows name_rows k f (q ∙ s)
    go None q = (let z : None ≡ Some f = sym (form_right property_rows [] k q) ∙ e in cc)
grown_rows false true true true k f g h e = form_right property_rows name_rows k (apart k f e) ∙ e
grown_rows false true false n' k f g h e = (let z : None ≡ Some f = e in cc)
grown_rows false false true true k f g h e = e
grown_rows false false false n' k f g h e = (let z : None ≡ Some f = e in cc)

grown_form : (less more : Ignore) → IsSubsetOf less more → (k : ℕ) (f : Form)
    → form_among (ignored_rows less) k ≡ Some f → form_among (ignored_rows more) k ≡ Some f
grown_form less more w k f =
    grown_rows less.properties more.properties less.names more.names k f w.properties w.names

-- a type that is always read isn't ignored
known_kept : (p n : Bool) (k : ℕ) → IsKnown k
    → form_among ((if p then property_rows else []) ++ (if n then name_rows else [])) k ≡ None
known_kept p n k =
    let P : ℕ → Type 0 = λ i. IsKnown i
    → form_among ((if p then property_rows else []) ++ (if n then name_rows else [])) i ≡ None in
    by_test P k reflibs (k == reflibs) refl (λ e. (let z : false ≡ true = e in cc)) (λ a.
    by_test P k fonts (k == fonts) refl (λ e. (let z : false ≡ true = e in cc)) (λ b.
    by_test P k generations (k == generations) refl (λ e. (let z : false ≡ true = e in cc)) (λ c.
    by_test P k attrtable (k == attrtable) refl (λ e. (let z : false ≡ true = e in cc)) (λ d.
    by_test P k elflags (k == elflags) refl (λ e. (let z : false ≡ true = e in cc)) (λ f.
    by_test P k propattr (k == propattr) refl (λ e. (let z : false ≡ true = e in cc)) (λ g.
    by_test P k propvalue (k == propvalue) refl (λ e. (let z : false ≡ true = e in cc)) (λ h.
    by_test P k plex (k == plex) refl (λ e. (let z : false ≡ true = e in cc)) (λ i.
    by_test P k strclass (k == strclass) refl (λ e. (let z : false ≡ true = e in cc)) (λ j.
    by_test P k format (k == format) refl (λ e. (let z : false ≡ true = e in cc)) (λ l.
    by_test P k libdirsize (k == libdirsize) refl (λ e. (let z : false ≡ true = e in cc)) (λ m.
    by_test P k srfname (k == srfname) refl (λ e. (let z : false ≡ true = e in cc)) (λ o.
    by_test P k libsecur (k == libsecur) refl (λ e. (let z : false ≡ true = e in cc)) (λ q e.
    go p n (rw (d, g, h) refl) (rw (a, b, c, f, i, j, l, m, o, q) refl))))))))))))))
  where
    go : (p n : Bool) → form_among property_rows k ≡ None → form_among name_rows k ≡ None
        → form_among ((if p then property_rows else []) ++ (if n then name_rows else [])) k ≡ None
    go true true x y = form_right property_rows name_rows k x ∙ y
    go true false x y = form_right property_rows [] k x
    go false true x y = y
    go false false x y = refl

known_unpassed : (profile : Profile) (r : Rec) → IsKnown r.kind → is_passed profile r ≡ false
known_unpassed profile r k = rw (known_kept profile.ignore.properties profile.ignore.names r.kind k) refl

some_form : (o : Option Form) → is_some o ≡ true → (f : Form) × (o ≡ Some f)
some_form None e = (let z : false ≡ true = e in cc)
some_form (Some f) e = (f, refl)

and_left : (a b : Bool) → a && b ≡ true → (a ≡ true) × (b ≡ true)
and_left true b e = (refl, e)
and_left false b e = (let z : false ≡ true = e in cc)

-- what is ignored is ignored when more is
passed_grows : (less more : Profile) → IsWider less more → (r : Rec) → is_passed less r ≡ true
    → is_passed more r ≡ true
passed_grows less more w r e =
    let p = and_left (is_ignored less.ignore r.kind) _ e in
    let f = some_form (form_among (ignored_rows less.ignore) r.kind) p.0 in
    rw (grown_form less.ignore more.ignore w.ignore r.kind f.0 f.1) p.1

-- a record that may follow is ignored, or of a type that is always read, or a zero byte
abbrev IsSorted : Profile → Rec → Type 0
IsSorted less r = (is_passed less r ≡ true) ⊎ (IsKnown r.kind ⊎ (r ≡ a_fill))

sorted : (less : Profile) (before : List Rec) (r : Rec) (bytes : List ℕ) → Spells less bytes r
    → MayFollowBy less before r → IsSorted less r
sorted less before r bytes s f = elim s [
  | inl i ↦ elim f.0 [
    | inl p ↦ inl p.0
    | inr e ↦ inr (inl (ordered_known (essential less before) r e.ordered i.0.known))
  ]
  | inr j ↦ inr (inr j.0)
]

-- and stays so when more is ignored
same_passed : (less more : Profile) → IsWider less more → (r : Rec) → IsSorted less r
    → is_passed more r ≡ is_passed less r
same_passed less more w r s = elim s [
  | inl e ↦ passed_grows less more w r e ∙ sym e
  | inr t ↦ elim t [
    | inl k ↦ known_unpassed more r k ∙ sym (known_unpassed less r k)
    | inr z ↦ ap (is_passed more) z ∙ fill_unpassed more ∙ sym (ap (is_passed less) z ∙ fill_unpassed less)
  ]
]

table_form : (i : Ignore) (k : ℕ) (f : Form) → form_among table k ≡ Some f → form_of i k ≡ Some f
table_form i k f e = form_left table (ignored_rows i) k f e

same_form : (less more : Profile) → IsWider less more → (r : Rec) (bytes : List ℕ) → Spells less bytes r
    → IsSorted less r → Spells more bytes r
same_form less more w r bytes s t = elim s [
  | inr j ↦ inr j
  | inl i ↦ inl (
    record {
      fits = i.0.fits;
      even = i.0.even;
      known = i.0.known;
      data_type = i.0.data_type;
      form = elim t [
        | inl e ↦
            let p = and_left (is_ignored less.ignore r.kind) _ e in
            let f = some_form (form_among (ignored_rows less.ignore) r.kind) p.0 in
            subst (λ o. IsOfForm o r.data_type (length r.payload)) (ignored_same r.kind f.0 f.1) i.0.form
        | inr u ↦ elim u [
          | inl k ↦
              let f = some_form (form_among table r.kind) k in
              subst (λ o. IsOfForm o r.data_type (length r.payload))
              (table_form less.ignore r.kind f.0 f.1 ∙ sym (table_form more.ignore r.kind f.0 f.1)) i.0.form
          | inr z ↦ absurd (omega (arith, i.0.known, ap (λ (x : Rec). x.kind) z))
        ]
      ];
    },
    i.1,
  )
]
  where
    ignored_same : (k : ℕ) (f : Form) → form_among (ignored_rows less.ignore) k ≡ Some f → form_of less.ignore k ≡ form_of more.ignore k
    ignored_same k f e = go (form_among table k) refl
      where
        go : (o : Option Form) → form_among table k ≡ o → form_of less.ignore k ≡ form_of more.ignore k
        go (Some g) h = table_form less.ignore k g h ∙ sym (table_form more.ignore k g h)
        go None h = form_right table (ignored_rows less.ignore) k h ∙ e ∙ sym (grown_form less.ignore more.ignore w.ignore k f e)
            ∙ sym (form_right table (ignored_rows more.ignore) k h)

-- a record that breaches no rule of its element breaches none under a wider profile
value_grows : (less more : Profile) → IsWider less more → (piece : List Rec) (r : Rec)
    → ((k : ElementRule) → ValueBreaches less piece r k → ⊥) → (k : ElementRule) → ValueBreaches more piece r k → ⊥
value_grows less more w piece r h Repetition x = h Repetition (x.0, x.1, x.2, x.3, omega (arith, x.4, w.limits.array))
value_grows less more w piece r h (Path f) x =
    fault_grows less.ignore.points more.ignore.points w.ignore.points (points r.payload)
    (record { half = half_of piece; start = end_of piece; end = end_of piece })
    (λ g b. h (Path g) (x.0, x.1, x.2, x.3, b)) f x.4
value_grows less more w piece r h other x = h other x

rules_grow : (less more : Profile) → IsWider less more → (before : List Rec) (r : Rec) → KeepsRules less before r
    → KeepsRules more before r
rules_grow less more w before r h = record {
  element = value_grows less more w (last_piece is_opener before) r h.element;
  name = h.name;
  cells = λ e. omega (arith, h.cells e, w.limits.cells);
}

-- if the same records aren't ignored, the same may follow
follows_grows : (less more : Profile) → IsWider less more → (before : List Rec) (r : Rec)
    → essential more before ≡ essential less before → IsSorted less r → MayFollowBy less before r
    → MayFollowBy more before r
follows_grows less more w before r same s f = elim f.0 [
  | inl p ↦ follows_passed more before r (passed_grows less more w r p.0) (record {
    unended = subst (λ l. IsWhole l → ⊥) (sym same) p.1.unended;
    there = elim p.1.there [
      | inl x ↦ inl (x.0, x.1, subst (λ l. InOrder l an_end) (sym same) x.2)
      | inr y ↦ inr y
    ];
  })
  | inr e ↦ follows_essential more before r (same_passed less more w r s ∙ e.unpassed) e.complete
      (subst (λ l. MayFollow more l r) (sym same)
      (e.ordered, rules_grow less more w (essential less before) r (f.1 e.unpassed)))
]

-- one more record is ignored in both cases, or in neither
same_more : (less more : Profile) → IsWider less more → (before : List Rec) (r : Rec)
    → essential more before ≡ essential less before → IsSorted less r
    → essential more (before ++ r ∷ []) ≡ essential less (before ++ r ∷ [])
same_more less more w before r same s = go (is_passed less r) refl (same_passed less more w r s)
  where
    go : (b : Bool) → is_passed less r ≡ b → is_passed more r ≡ is_passed less r
        → essential more (before ++ r ∷ []) ≡ essential less (before ++ r ∷ [])
    go true e t = essential_passed more before r (t ∙ e) ∙ same ∙ sym (essential_passed less before r e)
    go false e t = essential_kept more before r (t ∙ e) ∙ ap (λ l. l ++ r ∷ []) same
        ∙ sym (essential_kept less before r e)

-- the same bytes spell the same records, and the same of them aren't ignored
pub record Grows (less more : Profile) (before : List Rec) (bytes : List ℕ) (rs : List Rec) : Type 0 where
  pub spelled : SpellsAll (gds more) before bytes rs
  pub followed : FollowAll (gds more) before rs
  pub same : essential more (before ++ rs) ≡ essential less (before ++ rs)

all_grow : (less more : Profile) → IsWider less more → (before rs : List Rec) (bytes : List ℕ)
    → essential more before ≡ essential less before → SpellsAll (gds less) before bytes rs
    → FollowAll (gds less) before rs → Grows less more before bytes rs
all_grow less more w before [] bytes same s f = record {
  spelled = s;
  followed = tt;
  same = ap (essential more) (append-nil before) ∙ same ∙ sym (ap (essential less) (append-nil before));
}
all_grow less more w before (r ∷ rs) bytes same s f =
    let t = sorted less before r s.0 s.2 f.0 in
    let next = all_grow less more w (before ++ r ∷ []) rs s.1 (same_more less more w before r same t) s.3 f.1 in
    record {
      spelled = (s.0, s.1, same_form less more w r s.0 s.2 t, next.spelled, s.4);
      followed = (follows_grows less more w before r same t f.0, next.followed);
      same = subst (λ l. essential more l ≡ essential less l) (append_assoc before (r ∷ []) rs) next.same;
    }

-- a library that is spelled under a profile is spelled under each wider one
pub library_grows : (less more : Profile) → IsWider less more → (bytes : List ℕ) (cells : List Drawing) (h : GdsHead)
    → SpellsLibrary less bytes cells h → SpellsLibrary more bytes cells h
library_grows less more w bytes cells h p =
    let g = all_grow less more w [] p.records bytes refl p.whole.front.spelled p.whole.front.followed in
    record {
      records = p.records;
      whole = record {
        front = record { spelled = g.spelled; followed = g.followed; within = omega (arith, p.whole.front.within, w.limits.file) };
        whole = subst IsWhole (sym g.same) p.whole.whole;
      };
      cells_are = p.cells_are ∙ ap drawings (sym g.same);
      head_is = p.head_is ∙ ap head (sym g.same);
    }
