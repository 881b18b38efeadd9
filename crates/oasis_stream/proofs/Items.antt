-- What bytes say about the next item of a file: the spelling is prefix-free, and the empty list spells no item.
use Rattle.std.proofs.Common.{◌≡◌, ℕ, ◌<◌, Bool, true, false, not, ◌&&◌, nat_lt, if◌then◌else◌, List, [], ◌∷◌}
use Rattle.std.proofs.Common.{◌==◌, drop, length, Result, Ok, Err, refl, ap, ◌∙◌, arith, length-append}
use Rattle.lvl_io.specs.Spelling.{UnlessBreached, FirstBytesSay, IsPrefixFree, CanSay}
use Rattle.lvl_profile.specs.declared.profile.Profile.{Profile}
use Rattle.lvl_io.proofs.Spelling.{then_free, then_said}
use Rattle.oasis_records.specs.Rules.{UnlessRuled, Must}
use Rattle.oasis_values.specs.Numbers.{IsOneByte, IsByte, IsUnsigned}
use Rattle.oasis_values.specs.Spelling.{Spelling, Gives, Then}
use Rattle.oasis_values.proofs.Codes.{gives_code, seen_code, IsCode}
use Rattle.oasis_values.proofs.Integers.{unsigned_code}
use Rattle.oasis_values.specs.declared.fault.ValueFault.{ValueFault}
use Rattle.oasis_records.specs.Magic.{magic as magic_bytes, IsMagicByte, IsMagic, AreMagicBytes}
use Rattle.oasis_records.specs.Records.{record_type}
use Rattle.oasis_records.specs.Sizes.{Sized}
use Rattle.oasis_records.specs.declared.fault.RecordRule.{RecordRule}
use Rattle.oasis_records.specs.declared.fault.RecordRule.TheVariants.{Magic as WrongMagic}
use Rattle.oasis_records.specs.declared.measured.Measured.{Measured}
use Rattle.oasis_records.specs.declared.record.Record.{Record}
use Rattle.oasis_records.specs.declared.record_type.RecordType.{RecordType}
use Rattle.oasis_records.proofs.Sizes.{sized_code}
use Rattle.oasis_records.proofs.Whole.{magic_code, fields_code}
use Rattle.oasis_stream.specs.Items.{Item, magic, item, records}
use Rattle.lvl_profile.specs.declared.limits.Limits.{Limits}
use Rattle.oasis_stream.specs.Order.{at_end, cells_in, opens_cell, mixes, is_expected_in, allowed, type_after}
use Rattle.oasis_stream.specs.Next.{of_magic, of_record, IsTyped, IsNext, IsItem, IsTypedAfter}
use Rattle.oasis_stream.specs.declared.fault.NameRule.TheVariants.{Mixed}
use Rattle.oasis_stream.specs.declared.fault.OasisKind.{OasisKind}
use Rattle.oasis_stream.specs.declared.fault.OasisKind.TheVariants.{Record as OfRecord, Unexpected, Name, AfterEnd}
use Rattle.oasis_stream.specs.declared.fault.OasisKind.TheVariants.{TooManyCells, Block}

pub typed_code : (b : Bool) (n : ℕ) (t : Result RecordType OasisKind) → IsCode (IsTyped b n t)
typed_code b n (Ok t) = seen_code of_record (fields_code b n t)
typed_code b n (Err k) = gives_code

-- bytes begin with at most one record
pub next_free : (inside : Bool) (rs : List Record) (profile : Profile) → IsPrefixFree (IsNext inside rs profile)
next_free inside rs profile =
    then_free (Sized IsUnsigned profile) (λ id. IsTypedAfter inside rs id profile)
    ((sized_code unsigned_code).free profile)
    (λ id. (typed_code (at_end rs) id.len (type_after inside profile rs id.value)).free profile)

-- or item
pub item_free : (before : List Item) (profile : Profile) → IsPrefixFree (IsItem before profile)
item_free [] profile = (seen_code of_magic (magic_code magic_bytes)).free profile
item_free (i ∷ is) profile = next_free false (records (i ∷ is)) profile

-- there are bytes that say something
pub typed_said : (inside : Bool) (rs : List Record) (id : Measured) (profile : Profile)
    → CanSay (IsTypedAfter inside rs id profile)
typed_said inside rs id profile = (typed_code (at_end rs) id.len (type_after inside profile rs id.value)).said profile

pub item_said : (before : List Item) (profile : Profile) → CanSay (IsItem before profile)
item_said [] profile = (seen_code of_magic (magic_code magic_bytes)).said profile
item_said (i ∷ is) profile =
    let rs = records (i ∷ is) in
    then_said (Sized IsUnsigned profile) (λ id. IsTypedAfter false rs id profile) ((sized_code unsigned_code).said profile)
    (λ id. typed_said false rs id profile)

-- the empty list says nothing
abbrev NeedsBytes : {A : Type 0} → (List ℕ → A → Type 0) → Type 0
NeedsBytes {A = A} S = (b : List ℕ) (x : A) → S b x → 0 < length b

byte_needs : NeedsBytes IsOneByte
byte_needs b (Ok x) s = omega (arith, ap length s)
byte_needs b (Err f) s = absurd s

then_needs : {A B : Type 0} (profile : Profile) (S : Spelling A) (T : A → Spelling B) → NeedsBytes (S profile)
    → NeedsBytes (Then S T profile)
then_needs profile S T s b y p =
    omega (arith, s p.first p.value p.first_says, ap length p.joined, length-append p.first p.second)

sized_needs : (profile : Profile) → NeedsBytes (Sized IsUnsigned profile)
sized_needs profile b (Ok m) s = omega (arith, ap length s.0.bytes, length-append s.0.front (s.0.last ∷ []))
sized_needs profile b (Err f) s = omega (arith, ap length s.1.bytes, length-append s.1.front (s.1.last ∷ []))

pub next_needs : (inside : Bool) (profile : Profile) (rs : List Record) → NeedsBytes (IsNext inside rs profile)
next_needs inside profile rs = then_needs profile (Sized IsUnsigned) (IsTypedAfter inside rs) (sized_needs profile)

pub item_needs : (profile : Profile) (before : List Item) → NeedsBytes (IsItem before profile)
item_needs profile [] =
    then_needs profile IsMagic (λ x. Gives (Ok (of_magic x)))
    (then_needs profile (IsMagicByte 0x25) (UnlessRuled (λ _. AreMagicBytes (drop 1 magic_bytes)))
    (then_needs profile IsByte (λ b. Must (b == 0x25) b WrongMagic) byte_needs))
item_needs profile (i ∷ is) = next_needs false profile (records (i ∷ is))

-- if the front says something, there are bytes
pub some_needed : {A : Type 0} (S : List ℕ → A → Type 0) (ys : List ℕ) (n : ℕ) (x : A) → NeedsBytes S
    → FirstBytesSay S ys n x → 0 < length ys
some_needed S ys n x needs p =
    omega (arith, needs p.bytes x p.says, ap length p.whole, length-append p.bytes p.rest)

pub front_needs : (profile : Profile) (before : List Item) (ys : List ℕ) (n : ℕ)
    (x : Result (Result Item OasisKind) ValueFault) → FirstBytesSay (IsItem before profile) ys n x → 0 < length ys
front_needs profile before ys n x p = some_needed (IsItem before profile) ys n x (item_needs profile before) p

-- neither AfterEnd nor the rules of blocks are rules of an item by itself
abbrev pub is_unsaid : OasisKind → Bool
is_unsaid AfterEnd = true
is_unsaid (Block k) = true
is_unsaid k = false

abbrev IsSaid : Result RecordType OasisKind → Type 0
IsSaid (Ok t) = Unit {0}
IsSaid (Err k) = is_unsaid k ≡ false

said_magic : (profile : Profile) (k : OasisKind) (x : Result (Result (Unit {0}) RecordRule) ValueFault) (b : List ℕ)
    → UnlessBreached (λ y. Gives (Ok (of_magic y)) profile) x b (Ok (Err k)) → is_unsaid k ≡ false
said_magic profile k (Ok (Ok u)) b h = (let e : Ok (Err k) ≡ Ok (Ok magic) = h.1 in cc)
said_magic profile k (Ok (Err j)) b h =
    let e : Ok (Err k) ≡ Ok (Err (OfRecord j)) = h.1 in
    let f : k ≡ OfRecord j = cc in
    ap is_unsaid f
said_magic profile k (Err f) b h = (let e : Ok (Err k) ≡ Err f = h.1 in cc)

said_record : (profile : Profile) (k : OasisKind) (x : Result (Result Record RecordRule) ValueFault) (b : List ℕ)
    → UnlessBreached (λ y. Gives (Ok (of_record y)) profile) x b (Ok (Err k)) → is_unsaid k ≡ false
said_record profile k (Ok (Ok r)) b h = (let e : Ok (Err k) ≡ Ok (Ok (item r)) = h.1 in cc)
said_record profile k (Ok (Err j)) b h =
    let e : Ok (Err k) ≡ Ok (Err (OfRecord j)) = h.1 in
    let f : k ≡ OfRecord j = cc in
    ap is_unsaid f
said_record profile k (Err f) b h = (let e : Ok (Err k) ≡ Err f = h.1 in cc)

said_typed : (profile : Profile) (k : OasisKind) (has_offsets : Bool) (n : ℕ) (t : Result RecordType OasisKind)
    (b : List ℕ) → IsSaid t → IsTyped has_offsets n t profile b (Ok (Err k)) → is_unsaid k ≡ false
said_typed profile k has_offsets n (Ok t) b s h = said_record profile k h.value h.second h.second_says
said_typed profile k has_offsets n (Err j) b s h =
    let e : Ok (Err k) ≡ Ok (Err j) = h.1 in
    let f : k ≡ j = cc in
    ap is_unsaid f ∙ s

said_if : (b : Bool) (x y : Result RecordType OasisKind) → IsSaid x → IsSaid y → IsSaid (if b then x else y)
said_if true x y p q = p
said_if false x y p q = q

said_allowed : (limits : Limits) (rs : List Record) (t : Result RecordType RecordRule) → IsSaid (allowed limits rs t)
said_allowed limits rs (Ok t) =
    let full = opens_cell t && not (nat_lt (length (cells_in rs)) limits.cells) in
    said_if (mixes rs t) (Err (Name Mixed)) (if full then Err TooManyCells else Ok t) refl
    (said_if full (Err TooManyCells) (Ok t) refl tt)
said_allowed limits rs (Err k) = refl

said_type : (inside : Bool) (profile : Profile) (rs : List Record) (id : ℕ) → IsSaid (type_after inside profile rs id)
said_type inside profile rs id =
    let t = record_type profile id in
    said_if (is_expected_in inside rs t) (allowed profile.limits rs t) (Err (Unexpected id))
    (said_allowed profile.limits rs t) refl

said_id : (inside : Bool) (profile : Profile) (rs : List Record) (k : OasisKind) (x : Result Measured ValueFault)
    (b : List ℕ) → UnlessBreached (λ id. IsTypedAfter inside rs id profile) x b (Ok (Err k)) → is_unsaid k ≡ false
said_id inside profile rs k (Ok id) b h =
    said_typed profile k (at_end rs) id.len (type_after inside profile rs id.value) b
    (said_type inside profile rs id.value) h
said_id inside profile rs k (Err f) b h = (let e : Ok (Err k) ≡ Err f = h.1 in cc)

pub next_unsaid : (inside : Bool) (profile : Profile) (rs : List Record) (b : List ℕ) (k : OasisKind)
    → IsNext inside rs profile b (Ok (Err k)) → is_unsaid k ≡ false
next_unsaid inside profile rs b k h = said_id inside profile rs k h.value h.second h.second_says

pub item_unsaid : (profile : Profile) (before : List Item) (b : List ℕ) (k : OasisKind)
    → IsItem before profile b (Ok (Err k)) → is_unsaid k ≡ false
item_unsaid profile [] b k h = said_magic profile k h.value h.second h.second_says
item_unsaid profile (i ∷ is) b k h = next_unsaid false profile (records (i ∷ is)) b k h
