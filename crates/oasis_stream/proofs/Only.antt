-- If a rule is breached, no other is.
use Rattle.std.proofs.Common.{◌≡◌, ℕ, ◌<◌, ◌≤◌, ◌⊎◌, List, ◌++◌, length, take, drop, Result, Ok, Err, refl, sym, ap}
use Rattle.std.proofs.Common.{◌∙◌, subst}
use Rattle.std.proofs.Common.{inl, inr, arith, length-take}
use Rattle.std.proofs.lemmas.List.{take-append-drop}
use Rattle.lvl_io.specs.Spelling.{FirstBytesSay}
use Rattle.lvl_io.proofs.Spelling.{front_only, begun_open}
use Rattle.lvl_profile.specs.declared.profile.Profile.{Profile}
use Rattle.oasis_values.specs.declared.fault.ValueFault.{ValueFault}
use Rattle.oasis_values.specs.declared.fault.ValueFault.TheVariants.{TooLong}
use Rattle.oasis_records.specs.declared.record.Record.{Record as ARecord}
use Rattle.oasis_records.specs.declared.record.Record.TheVariants.{Block as Packed}
use Rattle.oasis_stream.specs.Items.{Item, magic, item, block, records, IsEnded}
use Rattle.oasis_stream.specs.Next.{IsItem}
use Rattle.oasis_stream.specs.Rules.{RecordBreaches}
use Rattle.oasis_stream.specs.Front.{PackedBreaches, Breaches}
use Rattle.oasis_stream.specs.Faults.{IsTooLong, BreaksRule, IsWrong}
use Rattle.oasis_stream.specs.declared.fault.OasisKind.{OasisKind}
use Rattle.oasis_stream.specs.declared.fault.OasisKind.TheVariants.{Value, Record, Unexpected, Name, Figure, AfterEnd}
use Rattle.oasis_stream.specs.declared.fault.OasisKind.TheVariants.{TooManyCells, Block}
use Rattle.oasis_stream.proofs.Items.{item_free}
use Rattle.oasis_stream.proofs.Fronts.{front_in}
use Rattle.oasis_stream.proofs.Blocks.{block_once}
use Rattle.oasis_stream.proofs.Once.{record_once, block_keeps}

-- a block breaches no rule of records, and a record that isn't a block none of blocks
apart : (profile : Profile) (before : List Item) (r : ARecord) (j k : OasisKind)
    → RecordBreaches profile (records before) r j
    → PackedBreaches profile before r k → ⊥
apart profile before (Packed p) j k x y = block_keeps profile (records before) p j x
apart profile before _ j k x y = y

packed_once : (profile : Profile) (before : List Item) (r : ARecord) (j k : OasisKind)
    → PackedBreaches profile before r j → PackedBreaches profile before r k → j ≡ k
packed_once profile before (Packed p) j k x y = block_once profile before p j k x y
packed_once profile before _ j k x y = absurd x

-- an item breaches at most one rule
breaches_once : (profile : Profile) (before : List Item) (i : Item) (j k : OasisKind) → Breaches profile before i j
    → Breaches profile before i k → j ≡ k
breaches_once profile before magic j k p q = absurd p
breaches_once profile before (block b rs) j k p q = absurd p
breaches_once profile before (item r) j k p q = elim p [
  | inl x ↦ elim q [
    | inl y ↦ record_once profile (records before) r j k x y
    | inr y ↦ absurd (apart profile before r j k x y)
  ]
  | inr x ↦ elim q [
    | inl y ↦ absurd (apart profile before r k j y x)
    | inr y ↦ packed_once profile before r j k x y
  ]
]

-- what bytes say about the next item is why the rule is breached
abbrev Explains : Profile → List Item → Result (Result Item OasisKind) ValueFault → OasisKind → Type 0
Explains profile before (Err f) k = k ≡ Value f
Explains profile before (Ok (Err r)) k = k ≡ r
Explains profile before (Ok (Ok i)) k = Breaches profile before i k

explains_once : (profile : Profile) (before : List Item) (x : Result (Result Item OasisKind) ValueFault) (j k : OasisKind)
    → Explains profile before x j → Explains profile before x k → j ≡ k
explains_once profile before (Err f) j k p q = p ∙ sym q
explains_once profile before (Ok (Err r)) j k p q = p ∙ sym q
explains_once profile before (Ok (Ok i)) j k p q = breaches_once profile before i j k p q

-- bytes at the front, within the limit, are why
record IsExplained (profile : Profile) (before : List Item) (room : ℕ) (ys : List ℕ) (k : OasisKind) : Type 0 where
  unended : ¬ IsEnded before
  count : ℕ
  within : count ≤ room
  said : Result (Result Item OasisKind) ValueFault
  front : FirstBytesSay (IsItem before profile) ys count said
  why : Explains profile before said k

record IsLong (profile : Profile) (before : List Item) (room : ℕ) (ys : List ℕ) (k : OasisKind) : Type 0 where
  kind : k ≡ Value TooLong
  long : IsTooLong profile before room ys

record IsAfter (before : List Item) (room : ℕ) (ys : List ℕ) (k : OasisKind) : Type 0 where
  kind : k ≡ AfterEnd
  ended : IsEnded before
  room_is : 0 < room
  some : 0 < length ys

abbrev Explained : Profile → List Item → ℕ → List ℕ → OasisKind → Type 0
Explained profile before room ys k = IsExplained profile before room ys k
    ⊎ (IsLong profile before room ys k ⊎ IsAfter before room ys k)

by_rule : (profile : Profile) (before : List Item) (room : ℕ) (ys : List ℕ) (k : OasisKind)
    → BreaksRule profile before room ys k
    → Explained profile before room ys k
by_rule profile before room ys k w = elim w.3 [
  | inl p ↦ inl (record { unended = w.0; count = w.1; within = w.2; said = Ok (Err k); front = p; why = refl })
  | inr p ↦ inl (record { unended = w.0; count = w.1; within = w.2; said = Ok (Ok p.0); front = p.1; why = p.2 })
]

cause : (profile : Profile) (before : List Item) (room : ℕ) (ys : List ℕ) (k : OasisKind)
    → IsWrong profile before room ys k
    → Explained profile before room ys k
cause profile before room ys (Value f) w = elim w [
  | inl p ↦ inr (inl (record { kind = ap Value p.0; long = p.1 }))
  | inr q ↦ elim q [
    | inl p ↦ inl (record {
      unended = p.0;
      count = p.2.count;
      within = p.2.within;
      said = Err f;
      front = p.2.front;
      why = refl;
    })
    | inr p ↦ by_rule profile before room ys (Value f) p
  ]
]
cause profile before room ys AfterEnd w = inr (inr (record { kind = refl; ended = w.0; room_is = w.1; some = w.2 }))
cause profile before room ys (Record k) w = by_rule profile before room ys (Record k) w
cause profile before room ys (Unexpected id) w = by_rule profile before room ys (Unexpected id) w
cause profile before room ys (Name k) w = by_rule profile before room ys (Name k) w
cause profile before room ys (Figure k) w = by_rule profile before room ys (Figure k) w
cause profile before room ys TooManyCells w = by_rule profile before room ys TooManyCells w
cause profile before room ys (Block k) w = by_rule profile before room ys (Block k) w

-- if the bytes within the limit are an unfinished beginning, they have no complete item at their front
long_open : (profile : Profile) (before : List Item) (room : ℕ) (ys : List ℕ) (n : ℕ)
    (x : Result (Result Item OasisKind) ValueFault)
    → IsTooLong profile before room ys
    → FirstBytesSay (IsItem before profile) ys n x → n ≤ room → ⊥
long_open profile before room ys n x (more, (ended, begun)) f fits =
    let l : length f.bytes ≤ length (take room ys) = omega (arith, fits, more, f.count, length-take room ys) in
    let e : f.bytes ++ f.rest ≡ take room ys ++ drop room ys = sym f.whole ∙ sym (take-append-drop room ys) in
    begun_open (IsItem before profile) (take room ys) n x (item_free before profile) begun
    (record {
      bytes = f.bytes;
      rest = drop (length f.bytes) (take room ys);
      says = f.says;
      whole = front_in f.bytes (take room ys) f.rest (drop room ys) e l;
      count = f.count;
    })

-- nor does a byte follow END there
long_after : (profile : Profile) (before : List Item) (room : ℕ) (ys : List ℕ) → IsTooLong profile before room ys
    → IsEnded before → 0 < room → ⊥
long_after profile before room ys (more, (ended, begun)) e some =
    omega (arith, some, more, length-take room ys, ap length (ended e))

front_same : (profile : Profile) (before : List Item) (ys : List ℕ) (n m : ℕ)
    (x y : Result (Result Item OasisKind) ValueFault)
    → FirstBytesSay (IsItem before profile) ys n x → FirstBytesSay (IsItem before profile) ys m y → x ≡ y
front_same profile before ys n m x y p q =
    front_only (IsItem before profile) ys n x y (item_free before profile) p q.bytes q.says (q.rest, inr q.whole)

one_cause : (profile : Profile) (before : List Item) (room : ℕ) (ys : List ℕ) (j k : OasisKind)
    → Explained profile before room ys j
    → Explained profile before room ys k → j ≡ k
one_cause profile before room ys j k p q = elim p [
  | inl a ↦ elim q [
    | inl b ↦ explains_once profile before a.said j k a.why
        (subst (λ x. Explains profile before x k)
        (sym (front_same profile before ys a.count b.count a.said b.said a.front b.front))
        b.why)
    | inr r ↦ elim r [
      | inl b ↦ absurd (long_open profile before room ys a.count a.said b.long a.front a.within)
      | inr b ↦ absurd (a.unended b.ended)
    ]
  ]
  | inr s ↦ elim s [
    | inl a ↦ elim q [
      | inl b ↦ absurd (long_open profile before room ys b.count b.said a.long b.front b.within)
      | inr r ↦ elim r [
        | inl b ↦ a.kind ∙ sym b.kind
        | inr b ↦ absurd (long_after profile before room ys a.long b.ended b.room_is)
      ]
    ]
    | inr a ↦ elim q [
      | inl b ↦ absurd (b.unended a.ended)
      | inr r ↦ elim r [
        | inl b ↦ absurd (long_after profile before room ys b.long a.ended a.room_is)
        | inr b ↦ a.kind ∙ sym b.kind
      ]
    ]
  ]
]

-- at the front of the bytes at most one rule is breached
pub only_wrong : (profile : Profile) (before : List Item) (room : ℕ) (ys : List ℕ) (j k : OasisKind)
    → IsWrong profile before room ys j
    → IsWrong profile before room ys k → j ≡ k
only_wrong profile before room ys j k p q = one_cause profile before room ys j k (cause profile before room ys j p)
    (cause profile before room ys k q)
