-- One more record, or one more element, after a front.
use Rattle.std.proofs.Common.{◌≡◌, ◌==◌, ℕ, ◌<◌, ℤ, Bool, true, false, if◌then◌else◌, List, [], ◌∷◌, ◌++◌, length, Some}
use Rattle.std.proofs.Common.{None, map, refl, sym, ap, ◌∙◌, subst, arith, append_assoc}
use Rattle.std.specs.List.{AllByRecursion}
use Rattle.std.specs.Prelude.{Option, Result, Ok, Err, IsErr, IsErrAnd, IsTrue, ◌↔◌}
use Rattle.std.proofs.lemmas.List.{append-nil}
use Rattle.gds_elements.specs.Types.{header, bgnlib, libname, units, bgnstr, strname}
use Rattle.lvl_grammar.specs.Order.{IsWord, Begins, has}
use Rattle.gds_elements.specs.Order.{an_element, opens}
use Rattle.gds_elements.specs.Rec.{Rec, kinds, is_type, is_opener, field, an_end}
use Rattle.gds_elements.specs.Values.{short, name}
use Rattle.gds_elements.specs.Rules.{ElementBreaches, ValueBreaches as BreachesInElement}
use Rattle.lvl_names.specs.Names.{IsName}
use Rattle.gds_elements.specs.Rules.{InOrder as InOrderInElement, BreachesNone as KeepsElement}
use Rattle.gds_elements.specs.Rules.{BreachesOnly as OnlyInElement}
use Rattle.gds_elements.specs.Meaning.{in_rings, shapes_of, references_of}
use Rattle.gds_elements.specs.inside.Reading.{IsReading, IsWhole, Draws}
use Rattle.gds_elements.specs.declared.element.Element.{Element as OpenElement}
use Rattle.gds_elements.specs.declared.element.Drawn.{Drawn}
use Rattle.gds_elements.proofs.Fields.{field-snoc, kinds-snoc}
use Rattle.gds_elements.proofs.Elements.{reading_begins, after_opener}
use Rattle.gds_library.specs.Types.{fill}
use Rattle.gds_library.specs.Order.{a_library}
use Rattle.gds_library.specs.inside.Stage.{after, left, has_units}
use Rattle.lvl_grammar.specs.inside.After.{LeadsTo}
use Rattle.gds_library.specs.Rec.{pieces, last_piece}
use Rattle.gds_library.specs.Values.{two_reals}
use Rattle.gds_library.specs.Rules.{InOrder, Breaches, BreachesOnly, MayFollow}
use Rattle.gds_library.specs.inside.Faults.{IsAllowed, lifted, lifted_refusal}
use Rattle.lvl_refusal.specs.Refused.{Says}
use Rattle.lvl_refusal.specs.declared.Cause.{Cause}
use Rattle.lvl_refusal.specs.declared.Cause.TheVariants.{Breach, OutOfMemory}
use Rattle.gds_elements.specs.declared.fault.ElementFault.{ElementFault}
use Rattle.gds_elements.specs.declared.fault.ElementFault.TheVariants.{Misplaced as MisplacedInElement, Rule}
use Rattle.gds_elements.proofs.Leads.{misplaced_carried}
use Rattle.gds_elements.proofs.OneRule.{is_value}
use Rattle.gds_library.specs.declared.fault.GdsKind.{GdsKind}
use Rattle.gds_library.specs.declared.fault.GdsKind.TheVariants.{Record, Misplaced, Element, Name, AfterEnd}
use Rattle.gds_library.specs.declared.fault.GdsKind.TheVariants.{TooManyCells}
use Rattle.gds_library.specs.inside.Shown.{grown, shown, on_last, with_drawn}
use Rattle.gds_library.specs.inside.Holds.{Holds, IsInside, HoldsWith, Takes}
use Rattle.gds_library.specs.declared.stage.LibraryStage.{LibraryStage}
use Rattle.gds_library.specs.declared.stage.LibraryStage.TheVariants.{Header, BgnLib, LibName, Units, Structures}
use Rattle.gds_library.specs.declared.stage.LibraryStage.TheVariants.{Elements, Fill}
use Rattle.gds_library.specs.declared.builder.Builder.{Builder}
use Rattle.gds_library.specs.declared.reading.Reading.{Reading}
use Rattle.gds_library.proofs.Places.{leads_on, leads_begins, leads_nowhere}
use Rattle.gds_library.proofs.Elements.{IsOpen, begins_open, reading_open, leads_element, begins_inside, open_goes}
use Rattle.gds_library.proofs.Pieces.{IsPiece, if_ap, reading_piece, word_piece, last_opened, piece_lacks, field_past}
use Rattle.gds_library.proofs.Outside.{outside_after, opener_is}
use Rattle.gds_library.proofs.Drawn.{drawings-snoc, drawings_element}
use Rattle.gds_library.proofs.Grown.{same_place, none_some}
use Rattle.gds_library.proofs.Spellings.{a_fill, map-append}
use Rattle.gds_library.proofs.Refusing.{kept_many, cells_shown, is_not, no_rule}
use Rattle.lvl_profile.specs.declared.profile.Profile.{Profile}

-- a record whose value no rule of an element tests may follow if the order, its name and the number of cells allow it
pub may_follow : (profile : Profile) (rs : List Rec) (r : Rec) → is_value r.kind ≡ false → InOrder rs r
    → (r.kind ≡ strname → IsName (name r.payload))
    → (r.kind ≡ bgnstr → length (pieces (is_type bgnstr) rs) < profile.limits.cells) → MayFollow profile rs r
may_follow profile rs r v g m c = (g, record { element = λ k x. no_rule profile _ r k v x; name = m; cells = c })

-- a record of an element may follow if it breaches no rule of the element
pub may_follow_inside : (profile : Profile) (rs piece : List Rec) (r : Rec) → last_piece is_opener rs ≡ piece
    → KeepsElement profile piece r
    → InOrderInElement piece r → InOrder rs r → r.kind == strname ≡ false → r.kind == bgnstr ≡ false
    → MayFollow profile rs r
may_follow_inside profile rs piece r e n o g s b = (
  g,
  record {
    element = λ k x. n (Rule k) (o, subst (λ p. BreachesInElement profile p r k) e x);
    name = λ h. absurd (is_not r.kind strname s h);
    cells = λ h. absurd (is_not r.kind bgnstr b h);
  },
)

-- a record may come next in an open element exactly if it may come next in the library
order_inside : (before piece : List Rec) (r : Rec) → LeadsTo a_library (kinds before) (left Elements)
    → InOrderInElement piece r → InOrder (before ++ piece) r
order_inside before piece r h g =
    subst (Begins a_library) (sym (ap kinds (append_assoc before piece (r ∷ [])) ∙ map-append before (piece ++ r ∷ [])))
    (begins_inside (kinds before) (kinds (piece ++ r ∷ [])) h g)

order_element : (before piece : List Rec) (r : Rec) → LeadsTo a_library (kinds before) (left Elements)
    → IsOpen (kinds piece) → InOrder (before ++ piece) r → InOrderInElement piece r
order_element before piece r h o g =
    subst (Begins an_element) (sym (kinds-snoc piece r)) (open_goes (kinds before) (kinds piece) r.kind h o
    (subst (Begins a_library) (kinds-snoc (before ++ piece) r ∙ ap (λ l. l ++ r.kind ∷ []) (map-append before piece))
    g))

-- a record that breaches a rule of the open element breaches a rule of the library
breach_inside : (profile : Profile) (before piece : List Rec) (r : Rec) (f : ElementFault)
    → LeadsTo a_library (kinds before) (left Elements) → IsOpen (kinds piece) → IsPiece piece
    → ElementBreaches profile piece r f → Breaches profile (before ++ piece) r (lifted f)
breach_inside profile before piece r (MisplacedInElement m) h o p x =
    misplaced_carried (InOrderInElement piece r) (InOrder (before ++ piece) r) r m (order_element before piece r h o) x
breach_inside profile before piece r (Rule k) h o p x = (
  order_inside before piece r h x.0,
  subst (λ l. BreachesInElement profile l r k) (sym
      (last_opened before piece p)) x.1,
)

last_one : (P : Rec → Type 0) (xs : List Rec) (r : Rec) → AllByRecursion P (xs ++ r ∷ []) → P r
last_one P [] r h = h.0
last_one P (x ∷ xs) r h = last_one P xs r h.1

last_lacks : (piece : List Rec) (r : Rec) (j : ℕ) → IsPiece (piece ++ r ∷ []) → opens j ≡ false
    → has after_opener j ≡ false → r.kind == j ≡ false
last_lacks piece r j p o n = last_one (λ i. i.kind == j ≡ false) piece r (piece_lacks (piece ++ r ∷ []) j p o n)

-- a type that is in no element may not come in an open one
never_inside : (before piece : List Rec) (r : Rec) (j : ℕ) → LeadsTo a_library (kinds before) (left Elements)
    → IsOpen (kinds piece) → IsPiece piece → InOrder (before ++ piece) r → opens j ≡ false → has after_opener j ≡ false
    → r.kind ≡ j → ⊥
never_inside before piece r j h o p g a b e =
    let more : IsPiece (piece ++ r ∷ []) = record {
      first = p.first;
      rest = p.rest ++ r ∷ [];
      parts = ap (λ l. l ++ r ∷ []) p.parts;
      begun = subst (λ l. Begins an_element (kinds (l ++ r ∷ []))) p.parts (order_element before piece r h o g);
    } in
    is_not r.kind j (last_lacks piece r j more a b) e

-- and conversely
breach_back : (profile : Profile) (before piece : List Rec) (r : Rec) (k : GdsKind)
    → LeadsTo a_library (kinds before) (left Elements)
    → IsOpen (kinds piece) → IsPiece piece → Breaches profile (before ++ piece) r k
    → (f : ElementFault) × (k ≡ lifted f) × ElementBreaches profile piece r f
breach_back profile before piece r (Record f) h o p x = absurd x
breach_back profile before piece r (Misplaced m) h o p x = (
  MisplacedInElement m,
  refl,
  misplaced_carried (InOrder (before ++ piece) r) (InOrderInElement piece r) r m
      (order_inside before piece r h) x,
)
breach_back profile before piece r (Element k) h o p x = (
  Rule k,
  refl,
  (
    order_element before piece r h o x.0,
    subst (λ l. BreachesInElement profile l r k)
        (last_opened before piece p) x.1,
  ),
)
breach_back profile before piece r Name h o p x = absurd (never_inside before piece r strname h o p x.0 refl refl x.1)
breach_back profile before piece r AfterEnd h o p x = absurd x
breach_back profile before piece r TooManyCells h o p x = absurd
    (never_inside before piece r bgnstr h o p x.0 refl refl x.1)

breaches_both : (profile : Profile) (b : Builder) (e : OpenElement) (rs : List Rec) (r : Rec) (f : ElementFault)
    (i : IsInside b e rs)
    → ElementBreaches profile i.piece r f → OnlyInElement profile i.piece r f → Breaches profile rs r (lifted f)
    × BreachesOnly profile rs r (lifted f)
breaches_both profile b e rs r f i x only =
    let h = subst (λ p. LeadsTo a_library (kinds i.before) (left p)) i.at i.holds.leads in
    let o = reading_open e i.piece i.reading in
    let p = reading_piece e i.piece i.reading in (
      subst (λ l. Breaches profile l r (lifted f)) (sym i.parts) (breach_inside profile i.before i.piece r f h o p x),
      λ j y.
          let z = breach_back profile i.before i.piece r j h o p (subst (λ l. Breaches profile l r j) i.parts y) in
          z.1 ∙ ap lifted (only z.0 z.2),
    )

says_lifted : (profile : Profile) (b : Builder) (e : OpenElement) (rs : List Rec) (r : Rec) (f : Cause ElementFault)
    (i : IsInside b e rs)
    → Says f (ElementBreaches profile i.piece r) → Says f (OnlyInElement profile i.piece r)
    → Says (lifted_refusal f) (λ k. Breaches profile rs r k × BreachesOnly profile rs r k)
says_lifted profile b e rs r (Breach k) i x only = breaches_both profile b e rs r k i x only
says_lifted profile b e rs r OutOfMemory i x only = tt

-- a record that its element refuses is refused in the library
pub says_inside : (profile : Profile) (b : Builder) (e : OpenElement) (rs : List Rec) (r : Rec) (f : Cause ElementFault)
    (g : Cause GdsKind) (i : IsInside b e rs)
    → g ≡ lifted_refusal f → Says f (ElementBreaches profile i.piece r) → Says f (OnlyInElement profile i.piece r)
    → Says g (λ k. Breaches profile rs r k × BreachesOnly profile rs r k)
says_inside profile b e rs r f g i h x only =
    subst (λ (j : Cause GdsKind). Says j (λ k. Breaches profile rs r k × BreachesOnly profile rs r k)) (sym h)
    (says_lifted profile b e rs r f i x only)

-- a builder has read the records, if no element is open
pub none_open : (b : Builder) (e : Option OpenElement) (rs : List Rec) → e ≡ None → Holds b rs → HoldsWith e b rs
none_open b e rs none h = subst (λ (o : Option OpenElement). HoldsWith o b rs) (sym none) h

-- a refusal that is passed on
pub takes_refused : (profile : Profile) {A : Type 0} (rs : List Rec) (r : Rec) (x : Reading) (res : Result A
    (Cause GdsKind))
    (e : Cause GdsKind) → IsErr res × IsErrAnd res (λ f. f ≡ e)
    → Says e (λ k. Breaches profile rs r k × BreachesOnly profile rs r k) → Takes profile rs r x res
takes_refused profile rs r x (Ok v) e h b = absurd h.1
takes_refused profile rs r x (Err f) e h b =
    subst (λ (i : Cause GdsKind). Says i (λ k. Breaches profile rs r k × BreachesOnly profile rs r k)) (sym h.1) b

-- if UNITS comes before the place after another record, it comes before that record
units_before : (p q : LibraryStage) (k : ℕ) → after p k ≡ Some q → k == units ≡ false → has_units q ≡ true
    → has_units p ≡ true
units_before Header q k e n h =
    (let z : has_units BgnLib ≡ true = subst (λ i. has_units i ≡ true) (same_place (k == header) BgnLib q e) h in cc)
units_before BgnLib q k e n h =
    (let z : has_units LibName ≡ true = subst (λ i. has_units i ≡ true) (same_place (k == bgnlib) LibName q e) h in cc)
units_before LibName q k e n h =
    (let z : has_units Units ≡ true = subst (λ i. has_units i ≡ true) (same_place (k == libname) Units q e) h in cc)
units_before Units q k e n h = (let z : None ≡ Some q = none_some (k == units) Structures q None n e in cc)
units_before _ q k e n h = refl

units_kept : (t : Bool) (p x y : List ℕ) (old new : List (List ℕ)) → new ≡ (if t then two_reals p else old)
    → (t ≡ false → old ≡ two_reals x) → y ≡ (if t then p else x) → new ≡ two_reals y
units_kept true p x y old new e h f = e ∙ ap two_reals (sym f)
units_kept false p x y old new e h f = e ∙ h refl ∙ ap two_reals (sym f)

-- what a record does to the head of a builder
pub record KeepsHead (b b' : Builder) (k : ℕ) (payload : List ℕ) : Type 0 where
  pub version : b'.version ≡ (if k == header then short payload else b.version)
  pub units : b'.units ≡ (if k == units then two_reals payload else b.units)

-- a record outside of elements that may come next leads to the next place
pub law_holds : (b b' : Builder) (rs : List Rec) (r : Rec) → Holds b rs → after b.stage r.kind ≡ Some b'.stage
    → shown b' ≡ grown r.kind r.payload (shown b) → KeepsHead b b' r.kind r.payload → Holds b' (rs ++ r ∷ [])
law_holds b b' rs r h e s k =
    let o = outside_after b.stage b'.stage r.kind e in
    record {
      leads = subst (λ l. LeadsTo a_library l (left b'.stage)) (sym (kinds-snoc rs r))
          (leads_on (kinds rs) b.stage b'.stage r.kind h.leads (λ _. o.opens) e);
      shown = s ∙ ap (grown r.kind r.payload) h.shown ∙ sym (drawings-snoc rs r o);
      version = k.version ∙ ap (λ (i : ℤ). if r.kind == header then short r.payload else i) h.version
          ∙ sym (ap short (field-snoc header rs r) ∙ if_ap short (r.kind == header) r.payload (field header rs));
      units = λ z. units_kept (r.kind == units) r.payload (field units rs) (field units (rs ++ r ∷ [])) b.units b'.units
          k.units (λ n. h.units (units_before b.stage b'.stage r.kind e n z)) (field-snoc units rs r);
    }

-- and breaches no rule
pub law_allowed : (profile : Profile) (b b' : Builder) (rs : List Rec) (r : Rec) → Holds b rs → Holds b' (rs ++ r ∷ [])
    → r.kind < 60
    → after b.stage r.kind ≡ Some b'.stage → IsAllowed profile.limits (length b.cells.cells) r.kind r.payload
    → MayFollow profile rs r
law_allowed profile b b' rs r h h' l e a =
    may_follow profile rs r (outside_after b.stage b'.stage r.kind e).value (leads_begins (kinds
    (rs ++ r ∷ [])) b'.stage
    h'.leads) a.name
    (λ k. (let n = cells_shown b.stage b'.stage b (subst (λ i. after b.stage i ≡ Some b'.stage) k e) in
    omega (arith, a.cells k, n, ap (λ ds. length ds) h.shown, kept_many rs)))

-- a zero byte after ENDLIB breaches no rule
pub law_fill : (profile : Profile) (rs : List Rec) → Begins a_library (kinds (rs ++ a_fill ∷ []))
    → MayFollow profile rs a_fill
law_fill profile rs g =
    may_follow profile rs a_fill (outside_after Fill Fill fill refl).value g (λ e. absurd (omega (arith, e)))
    (λ e. absurd (omega (arith, e)))

-- a builder after the records of one more complete element
law_element : (b b' : Builder) (before piece : List Rec) → Holds b before → b.stage ≡ Elements
    → IsWord an_element (kinds piece) → b'.stage ≡ b.stage → b'.version ≡ b.version → b'.units ≡ b.units
    → shown b' ≡ on_last (with_drawn (map in_rings (shapes_of piece)) (references_of piece)) (shown b)
    → Holds b' (before ++ piece)
law_element b b' before piece h at w p v u s =
    let pc = word_piece piece w in
    let to : LeadsTo a_library (kinds before ++ kinds piece) (left Elements) =
    leads_element (kinds before) (kinds piece) (subst (λ p. LeadsTo a_library (kinds before) (left p)) at h.leads)
    w in
    record {
      leads = subst (λ l. LeadsTo a_library l (left b'.stage)) (sym (map-append before piece))
          (subst (λ q. LeadsTo a_library (kinds before ++ kinds piece) (left q)) (sym (p ∙ at)) to);
      shown = s ∙ ap (on_last (with_drawn (map in_rings (shapes_of piece)) (references_of piece))) h.shown
          ∙ sym (drawings_element before piece pc);
      version = v ∙ h.version ∙ sym (ap short (field_past header before piece (piece_lacks piece header pc refl refl)));
      units = λ z. u ∙ h.units (ap has_units at)
          ∙ sym (ap two_reals (field_past units before piece (piece_lacks piece units pc refl refl)));
    }

-- the records before and in an open element begin a library
pub inside_begins : (b : Builder) (e : OpenElement) (rs : List Rec) → IsInside b e rs → Begins a_library (kinds rs)
inside_begins b e rs i =
    subst (Begins a_library) (sym (ap kinds i.parts ∙ map-append i.before i.piece))
    (begins_inside (kinds i.before) (kinds i.piece) (subst (λ p. LeadsTo a_library (kinds i.before) (left p)) i.at
    i.holds.leads) (reading_begins e i.piece i.reading))

-- one more record of an open element, which stays open
pub law_inside : (profile : Profile) (b : Builder) (e e' : OpenElement) (rs : List Rec) (r : Rec) (i : IsInside b e rs)
    → IsReading e' (i.piece ++ r ∷ []) → KeepsElement profile i.piece r → IsInside b e' (rs ++ r ∷ [])
    × MayFollow profile rs r
law_inside profile b e e' rs r i re n =
    let next : IsInside b e' (rs ++ r ∷ []) = record {
      before = i.before;
      piece = i.piece ++ r ∷ [];
      parts = ap (λ l. l ++ r ∷ []) i.parts ∙ append_assoc i.before i.piece (r ∷ []);
      holds = i.holds;
      at = i.at;
      reading = re;
    } in
    let pc = reading_piece e' (i.piece ++ r ∷ []) re in
    let last : last_piece is_opener rs ≡ i.piece = ap (last_piece is_opener) i.parts ∙ last_opened i.before i.piece
    (reading_piece e i.piece i.reading) in (
      next,
      may_follow_inside profile rs i.piece r last n (reading_begins e' (i.piece ++ r ∷ []) re)
          (inside_begins b e' (rs ++ r ∷ []) next) (last_lacks i.piece r strname pc refl refl)
          (last_lacks i.piece r bgnstr pc refl refl),
    )

draws_word : (o : Option Drawn) (piece : List Rec) → Draws o piece → IsWord an_element (kinds piece)
draws_word None piece h = absurd h
draws_word (Some d) piece h = h.0

-- the records of a whole element are in the order of one
pub whole_word : (e : OpenElement) (piece : List Rec) → IsWhole e piece → IsWord an_element (kinds piece)
whole_word e piece h = draws_word e.drawn piece h

-- the ENDEL of an open element
pub law_whole : (profile : Profile) (b b' : Builder) (e : OpenElement) (rs : List Rec) (r : Rec) (i : IsInside b e rs)
    → IsWord an_element (kinds (i.piece ++ r ∷ [])) → KeepsElement profile i.piece r
    → b'.stage ≡ b.stage → b'.version ≡ b.version → b'.units ≡ b.units
    → shown b' ≡ on_last (with_drawn (map in_rings (shapes_of (i.piece ++ r ∷ []))) (references_of (i.piece ++ r ∷ [])))
    (shown b)
    → Holds b' (rs ++ r ∷ []) × MayFollow profile rs r
law_whole profile b b' e rs r i w n p v u s =
    let parts : rs ++ r ∷ [] ≡ i.before ++ (i.piece ++ r ∷ []) = ap (λ l. l ++ r ∷ []) i.parts ∙ append_assoc i.before
    i.piece (r ∷ []) in
    let next : Holds b' (rs ++ r ∷ []) = subst (Holds b') (sym parts) (law_element b b' i.before (i.piece ++ r ∷ [])
    i.holds i.at w p v u s) in
    let pc = word_piece (i.piece ++ r ∷ []) w in
    let last : last_piece is_opener rs ≡ i.piece = ap (last_piece is_opener) i.parts ∙ last_opened i.before i.piece
    (reading_piece e i.piece i.reading) in (
      next,
      may_follow_inside profile rs i.piece r last n
          ([], subst (IsWord an_element) (sym (append-nil (kinds (i.piece ++ r ∷ [])))) w)
          (leads_begins (kinds (rs ++ r ∷ [])) b'.stage next.leads) (last_lacks i.piece r strname pc refl refl)
          (last_lacks i.piece r bgnstr pc refl refl),
    )

-- the record that opens an element
pub law_opens : (profile : Profile) (b : Builder) (e : OpenElement) (rs : List Rec) (r : Rec) → Holds b rs
    → b.stage ≡ Elements
    → IsReading e (r ∷ []) → IsInside b e (rs ++ r ∷ []) × MayFollow profile rs r
law_opens profile b e rs r h at re =
    let next : IsInside b e (rs ++ r ∷ []) = record {
      before = rs;
      piece = r ∷ [];
      parts = refl;
      holds = h;
      at = at;
      reading = re;
    } in
    let o = opener_is r.kind (begins_open r.kind [] (reading_begins e (r ∷ []) re)) in (
      next,
      may_follow profile rs r o.value (inside_begins b e (rs ++ r ∷ []) next)
          (λ z. absurd (is_not r.kind strname o.strname z)) (λ z. absurd (is_not r.kind bgnstr o.bgnstr z)),
    )

-- an open element may end exactly if ENDEL may come next in the library
pub end_inside : (b : Builder) (e : OpenElement) (rs : List Rec) (t : Bool)
    → ((piece : List Rec) → IsReading e piece → IsTrue t ↔ InOrderInElement piece an_end) → IsInside b e rs
    → IsTrue t ↔ InOrder rs an_end
end_inside b e rs t h i =
    let l = subst (λ p. LeadsTo a_library (kinds i.before) (left p)) i.at i.holds.leads in
    let o = reading_open e i.piece i.reading in (
      λ x. subst (λ l. InOrder l an_end) (sym i.parts)
          (order_inside i.before i.piece an_end l ((h i.piece i.reading).0 x)),
      λ y. (h i.piece i.reading).1 (order_element i.before i.piece an_end l o
          (subst (λ l. InOrder l an_end) i.parts y)),
    )

nowhere_ends : (p : LibraryStage) → after p an_end.kind ≡ None
nowhere_ends Header = refl
nowhere_ends _ = refl

-- if none is open, ENDEL may not come
pub end_outside : (b : Builder) (rs : List Rec) → Holds b rs → InOrder rs an_end → ⊥
end_outside b rs h g =
    leads_nowhere (kinds rs) b.stage an_end.kind h.leads (λ _. refl) (nowhere_ends b.stage)
    (subst (Begins a_library) (kinds-snoc rs an_end) g)
