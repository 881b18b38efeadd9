-- No bytes are a file of both formats: a GDSII file begins with a zero byte, an OASIS file with 0x25.
use Rattle.lvl_profile.specs.declared.profile.Profile.{Profile}
use Rattle.std.proofs.Common.{◌≡◌, ℕ, ◌==◌, List, [], ◌∷◌, ◌++◌, length, Ok, Err, Bool, true, false}
use Rattle.std.proofs.Common.{refl, sym, ap, ◌∙◌, subst, arith, inl, inr}
use Rattle.std.specs.Prelude.{Option, Some, None, Result}
use Rattle.lvl_io.specs.Spelling.{UnlessBreached}
use Rattle.lvl_grammar.specs.Order.{Order, IsWord, ◌then◌, one, next, many}
use Rattle.lvl_grammar.specs.Front.{SpellsAll, FollowAll}
use Rattle.lvl_grammar.proofs.Orders.{type_same}
use Rattle.gds_records.specs.Spelled.{IsOfForm}
use Rattle.gds_records.specs.Table.{form_of}
use Rattle.gds_elements.specs.Rec.{Rec, kinds}
use Rattle.gds_elements.specs.Types.{header, bgnlib, libname, units, endlib, endel}
use Rattle.gds_library.specs.Types.{fill}
use Rattle.gds_library.specs.Order.{a_structure, a_library}
use Rattle.gds_library.specs.Ignoring.{is_passed, essential, IsWholeBy, MayFollowBy}
use Rattle.gds_library.specs.Rec.{Spells as SpellsRecord}
use Rattle.gds_library.specs.Front.{gds, SpellsLibrary as SpellsGds}
use Rattle.gds_library.specs.declared.head.GdsHead.{GdsHead}
use Rattle.oasis_values.specs.Numbers.{IsByte}
use Rattle.oasis_values.specs.declared.fault.ValueFault.{ValueFault}
use Rattle.oasis_records.specs.Magic.{IsMagicByte, AreMagicBytes, IsMagic}
use Rattle.oasis_records.specs.Rules.{Must, UnlessRuled, obeyed}
use Rattle.oasis_records.specs.declared.fault.RecordRule.{RecordRule}
use Rattle.oasis_records.specs.declared.fault.RecordRule.TheVariants.{Magic}
use Rattle.oasis_records.specs.declared.record.Record.TheVariants.{End}
use Rattle.oasis_stream.specs.Items.{Item, item, as_packed, IsEnded}
use Rattle.oasis_stream.specs.Next.{of_magic, IsItem}
use Rattle.oasis_stream.specs.Front.{oasis}
use Rattle.oasis_library.specs.Library.{SpellsLibrary as SpellsOasis}
use Rattle.oasis_library.specs.declared.head.OasisHead.{OasisHead}
use Rattle.lvl.specs.Drawing.{Drawing}
use Rattle.lvl.specs.Layouts.{BeginsWith, HasFirst, IsOasis}

goes_on : (byte : ℕ) (bytes first rest : List ℕ) → bytes ≡ first ++ rest → BeginsWith byte first → BeginsWith byte bytes
goes_on byte bytes first rest e b = record { rest = b.rest ++ rest; is = e ∙ ap (λ l. l ++ rest) b.is }

-- the first byte of a record is the high byte of its length, which is 6 in a HEADER
header_begins : (profile : Profile) (bytes : List ℕ) (r : Rec) → r.kind ≡ header → SpellsRecord profile bytes r
    → BeginsWith 0 bytes
header_begins profile bytes r e (inr i) = record { rest = []; is = i.1 }
header_begins profile bytes r e (inl i) =
    let form = subst (λ k. IsOfForm (form_of profile.ignore k) r.data_type (length r.payload)) e i.0.form in
    let high : i.1.high ≡ 0 = omega (arith, i.1.len, i.1.byte, form.1) in
    record { rest = i.1.low ∷ r.kind ∷ r.data_type ∷ r.payload; is = rw high at i.1.bytes_are }

-- the first record of a library is a HEADER
first_is : (first : ℕ) (others : Order) (rs : List Rec) → IsWord (next (one first) others) (kinds rs)
    → (r : Rec) × (more : List Rec) × (rs ≡ r ∷ more) × (r.kind ≡ first)
first_is first others [] w = (let z : [] ≡ first ∷ w.1 = w.4 ∙ ap (λ u. u ++ w.1) w.2 in cc)
first_is first others (r ∷ rs) w =
    (let z : r.kind ∷ kinds rs ≡ first ∷ w.1 = w.4 ∙ ap (λ u. u ++ w.1) w.2 in (r, rs, refl, cc))

records_begin : (profile : Profile) (bytes : List ℕ) (r : Rec) (more : List Rec) → r.kind ≡ header
    → SpellsAll (gds profile) [] bytes (r ∷ more)
    → BeginsWith 0 bytes
records_begin profile bytes r more e s = goes_on 0 bytes s.0 s.1 s.4 (header_begins profile s.0 r e s.2)

-- what comes after the HEADER of a library
abbrev after_header : Order
after_header = one bgnlib then one libname then one units then many a_structure then one endlib then many (one fill)

-- the first record isn't ignored
first_essential : (profile : Profile) (r : Rec) → MayFollowBy profile [] r → is_passed profile r ≡ false
first_essential profile r f = elim f.0 [
  | inl p ↦ elim p.1.there [
    | inl z ↦
        let w = z.2.1 in
        let k : endel ∷ z.2.0 ≡ header ∷ w.1 = w.4 ∙ ap (λ u. u ++ w.1) w.2 in
        let e : endel ≡ header = cc in
        absurd (omega (arith, e))
    | inr z ↦ (let n : None ≡ Some z.0 = z.1 in cc)
  ]
  | inr e ↦ e.unpassed
]

gds_begins_at : (profile : Profile) (bytes : List ℕ) (rs : List Rec) → SpellsAll (gds profile) [] bytes rs
    → FollowAll (gds profile) [] rs → IsWholeBy profile rs → BeginsWith 0 bytes
gds_begins_at profile bytes [] s f w = (let e = first_is header after_header [] w in cc)
gds_begins_at profile bytes (r ∷ rs) s f w =
    let n = first_essential profile r f.0 in
    let same : essential profile (r ∷ rs) ≡ r ∷ essential profile rs = rw n refl in
    let e = first_is header after_header (r ∷ essential profile rs) (subst (λ l. IsWord a_library (kinds l)) same w) in
    records_begin profile bytes r rs (let k : r ≡ e.0 = cc in ap (λ (x : Rec). x.kind) k ∙ e.3) s

pub gds_begins : (profile : Profile) (bytes : List ℕ) (cells : List Drawing) (h : GdsHead)
    → SpellsGds profile bytes cells h
    → BeginsWith 0 bytes
gds_begins profile bytes cells h s =
    gds_begins_at profile bytes s.records s.whole.front.spelled s.whole.front.followed s.whole.whole

-- the magic string, byte by byte

abbrev given : ℕ → Result (Result ℕ RecordRule) ValueFault
given u = Ok (Ok u)

obeyed_is : (x m : ℕ) (b : Bool) (u : ℕ) → x == m ≡ b → given u ≡ Ok (obeyed b x Magic) → x ≡ m
obeyed_is x m true u e o = type_same x m e
obeyed_is x m false u e o = cc

byte_begins : (profile : Profile) (m u : ℕ) (bytes first second : List ℕ) (v : Result ℕ ValueFault)
    → bytes ≡ first ++ second
    → IsByte profile first v
    → UnlessBreached (λ b. Must (b == m) b Magic profile) v second (Ok (Ok u)) → BeginsWith m bytes
byte_begins profile m u bytes first second (Err f) e p q = absurd p
byte_begins profile m u bytes first second (Ok x) e p q =
    let is : x ≡ m = obeyed_is x m (x == m) u refl q.1 in
    goes_on m bytes first second e (record { rest = []; is = rw is at p })

magic_first : (profile : Profile) (m : ℕ) (ms bytes first second : List ℕ) (u : Unit {0})
    (v : Result (Result ℕ RecordRule) ValueFault)
    → bytes ≡ first ++ second
    → IsMagicByte m profile first v
    → UnlessBreached (λ x. UnlessRuled (λ b. AreMagicBytes ms) x profile) v second (Ok (Ok u))
    → BeginsWith m bytes
magic_first profile m ms bytes first second u (Err f) e p q = (let z = q.1 in cc)
magic_first profile m ms bytes first second u (Ok (Err k)) e p q = (let z = q.1 in cc)
magic_first profile m ms bytes first second u (Ok (Ok b)) e p q =
    goes_on m bytes first second e (byte_begins profile m b first p.first p.second p.value p.joined p.first_says
    p.second_says)

-- the magic string after its first byte
abbrev magic_rest : List ℕ
magic_rest = 0x53 ∷ 0x45 ∷ 0x4D ∷ 0x49 ∷ 0x2D ∷ 0x4F ∷ 0x41 ∷ 0x53 ∷ 0x49 ∷ 0x53 ∷ 0x0D ∷ 0x0A ∷ []

magic_begins : (profile : Profile) (bytes : List ℕ) (u : Unit {0}) → IsMagic profile bytes (Ok (Ok u))
    → BeginsWith 0x25 bytes
magic_begins profile bytes u p =
    magic_first profile 0x25 magic_rest bytes p.first p.second u p.value p.joined p.first_says p.second_says

item_first : (profile : Profile) (i : Item) (bytes first second : List ℕ)
    (v : Result (Result (Unit {0}) RecordRule) ValueFault)
    → bytes ≡ first ++ second
    → IsMagic profile first v → UnlessBreached (λ x b y. (b ≡ []) × (y ≡ Ok (of_magic x))) v second (Ok (Ok i))
    → BeginsWith 0x25 bytes
item_first profile i bytes first second (Err f) e p q = (let z = q.1 in cc)
item_first profile i bytes first second (Ok (Err k)) e p q = (let z = q.1 in cc)
item_first profile i bytes first second (Ok (Ok u)) e p q = goes_on 0x25 bytes first second e
    (magic_begins profile first u p)

ended_nothing : (before : List Item) (x : Item) → [] ≡ before ++ x ∷ [] → ⊥
ended_nothing [] x e = cc
ended_nothing (i ∷ is) x e = cc

items_begin : (profile : Profile) (bytes : List ℕ) (is : List Item) → SpellsAll (oasis profile) [] bytes is → IsEnded is
    → BeginsWith 0x25 bytes
items_begin profile bytes [] s e = absurd (ended_nothing e.0 (item (End e.1)) e.2)
items_begin profile bytes (i ∷ is) s e =
    let p : IsItem [] profile s.0 (Ok (Ok (as_packed i))) = s.2 in
    goes_on 0x25 bytes s.0 s.1 s.4 (item_first profile (as_packed i) s.0 p.first p.second p.value p.joined p.first_says
    p.second_says)

pub oasis_begins : (profile : Profile) (bytes : List ℕ) (cells : List Drawing) (h : OasisHead)
    → SpellsOasis profile bytes cells h
    → BeginsWith 0x25 bytes
oasis_begins profile bytes cells h s = items_begin profile bytes s.items s.whole.front.spelled s.whole.whole

-- so no file is of both formats

pub one_byte : (b c : ℕ) (bytes : List ℕ) → BeginsWith b bytes → BeginsWith c bytes → b ≡ c
one_byte b c bytes p q = (let e : b ∷ p.rest ≡ c ∷ q.rest = sym p.is ∙ q.is in cc)

pub not_oasis : (first : Option ℕ) (bytes : List ℕ) → HasFirst first bytes → (first ≡ Some 0x25 → ⊥) → IsOasis bytes → ⊥
not_oasis None bytes p n q = (let e : [] ≡ 0x25 ∷ q.rest = sym p ∙ q.is in cc)
not_oasis (Some b) bytes p n q = n (ap Some (one_byte b 0x25 bytes p q))

pub one_format : (profile : Profile) (bytes : List ℕ) (ours theirs : List Drawing) (g : GdsHead) (o : OasisHead)
    → SpellsGds profile bytes ours g
    → SpellsOasis profile bytes theirs o → ⊥
one_format profile bytes ours theirs g o p q =
    (let e : 0 ≡ 0x25 = one_byte 0 0x25 bytes (gds_begins profile bytes ours g p)
    (oasis_begins profile bytes theirs o q) in
    omega (arith, e))
