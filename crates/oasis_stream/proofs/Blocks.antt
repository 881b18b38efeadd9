-- Blocks: the bytes of a block decide the records inside, and which rule is breached; if one is, no records are inside.
use Rattle.std.proofs.Common.{◌≡◌, ℕ, ◌-◌, ◌<◌, ◌≤◌, ◌⊎◌, true, List, ◌++◌, length, take, drop, Result, Ok}
use Rattle.std.proofs.Common.{Err, Some, None, refl, sym, ◌∙◌, subst, inl, inr, arith, length-take}
use Rattle.std.proofs.lemmas.List.{take-append-drop}
use Rattle.lvl_io.specs.Known.{Agree}
use Rattle.lvl_io.specs.Spelling.{FirstBytesSay, IsBegun}
use Rattle.lvl_io.proofs.Spelling.{front_only, breached_none, begun_open}
use Rattle.lvl_grammar.specs.Front.{IsFront, SpellsWhole}
use Rattle.lvl_grammar.specs.Refused.{IsStuck}
use Rattle.lvl_grammar.proofs.Agreeing.{agree_ends}
use Rattle.lvl_grammar.proofs.Laws.{IsGrammar, AreFaults, same_records, one_whole}
use Rattle.lvl_grammar.proofs.Stuck.{law_stuck, stuck_none}
use Rattle.lvl_profile.specs.declared.profile.Profile.{Profile}
use Rattle.oasis_values.specs.declared.fault.ValueFault.{ValueFault}
use Rattle.oasis_blocks.specs.Packed.{Packed}
use Rattle.oasis_blocks.specs.Unpacking.{Unpacks, Breaches as Refuses}
use Rattle.oasis_blocks.specs.declared.fault.BlockRule.{BlockRule}
use Rattle.oasis_blocks.specs.declared.fault.BlockRule.TheVariants.{TooLong, Deflate, BlockLength}
use Rattle.oasis_records.specs.declared.record.Record.{Record}
use Rattle.oasis_stream.specs.Items.{Item, item, records}
use Rattle.oasis_stream.specs.Next.{IsNext}
use Rattle.oasis_stream.specs.Blocks.{inside, room_after, HasInside, BreaksRuleInside, IsWrongInside, inside_faults}
use Rattle.oasis_stream.specs.Blocks.{StopsInside, BreaksInside, BlockBreaches, cause}
use Rattle.oasis_stream.specs.Rules.{RecordBreaches, KeepsRules}
use Rattle.oasis_stream.specs.declared.fault.OasisKind.{OasisKind}
use Rattle.oasis_stream.specs.declared.fault.OasisKind.TheVariants.{Value, Block, AfterEnd}
use Rattle.oasis_stream.proofs.Fronts.{front_in}
use Rattle.oasis_stream.proofs.Items.{next_free, next_needs, some_needed}
use Rattle.oasis_stream.proofs.Once.{record_once, record_keeps}

abbrev said : Record → Result (Result Item OasisKind) ValueFault
said r = Ok (Ok (item r))

same_record : (r s : Record) → said r ≡ said s → r ≡ s
same_record r s e = cc

pub inside_grammar : (profile : Profile) (outer : List Record) (count : ℕ) → IsGrammar (inside profile outer count)
inside_grammar profile outer count = record {
  decided = λ before r s a b x y p q f g e.
      let o = (next_free true (outer ++ before) profile).only a b x y (said r) (said s) p q e in
      (o.0, same_record r s o.1);
  some = λ before a r p. next_needs true profile (outer ++ before) a (said r) p;
}

-- an unfinished beginning has no record at its front
open_inside : (profile : Profile) (rs : List Record) (ys : List ℕ) (n : ℕ)
    (x : Result (Result Item OasisKind) ValueFault)
    → IsBegun (IsNext true rs profile) ys → FirstBytesSay (IsNext true rs profile) ys n x → ⊥
open_inside profile rs ys n x b f = begun_open (IsNext true rs profile) ys n x (next_free true rs profile) b f

-- if the block ends within a record, no record is within it
cut_inside : (profile : Profile) (rs : List Record) (room : ℕ) (ys text : List ℕ) (r : Record)
    → room ≤ length ys → IsBegun (IsNext true rs profile) ys
    → IsNext true rs profile text (said r) → Agree text ys → length text ≤ room → ⊥
cut_inside profile rs room ys text r l b p agree fits =
    let e = agree_ends text ys agree in
    open_inside profile rs ys (length text) (said r) b
    (record {
      bytes = text;
      rest = drop (length text) ys;
      says = p;
      whole = front_in text ys e.0 e.1 e.2 (omega (arith, l, fits));
      count = refl;
    })

rule_stops : (profile : Profile) (rs : List Record) (ys text : List ℕ) (r : Record) (k : OasisKind)
    → BreaksRuleInside profile rs ys k → IsNext true rs profile text (said r) → KeepsRules profile rs r → Agree text ys
    → ⊥
rule_stops profile rs ys text r k w p g agree = elim w.1 [
  | inl q ↦ (let e : Ok (Err k) ≡ said r = front_only (IsNext true rs profile) ys w.0 (Ok (Err k)) (said r)
      (next_free true rs profile) q text p agree in
      let h : Err k ≡ Ok (item r) = cc in cc)
  | inr q ↦
      let e : q.0 ≡ r = same_record q.0 r (front_only (IsNext true rs profile) ys w.0 (said q.0) (said r)
      (next_free true rs profile) q.1 text p agree) in
      record_keeps profile rs r k g (subst (λ (s : Record). RecordBreaches profile rs s k) e q.2)
]

inside_stops : (profile : Profile) (rs : List Record) (room : ℕ) (ys text : List ℕ) (r : Record) (k : OasisKind)
    → IsWrongInside profile rs room ys k → IsNext true rs profile text (said r) → KeepsRules profile rs r
    → Agree text ys
    → length text ≤ room → ⊥
inside_stops profile rs room ys text r (Value f) w p g agree fits =
    breached_none (IsNext true rs profile) ys w.1 f (Ok (item r)) (next_free true rs profile) w.2 text p agree
inside_stops profile rs room ys text r (Block BlockLength) w p g agree fits =
    cut_inside profile rs room ys text r w.1 w.2 p agree fits
inside_stops profile rs room ys text r (Block TooLong) w p g agree fits = w
inside_stops profile rs room ys text r (Block Deflate) w p g agree fits = w
inside_stops profile rs room ys text r AfterEnd w p g agree fits = w
inside_stops profile rs room ys text r k w p g agree fits = rule_stops profile rs ys text r k w p g agree

rule_here : (profile : Profile) (rs : List Record) (ys : List ℕ) (k : OasisKind) → BreaksRuleInside profile rs ys k
    → 0 < length ys
rule_here profile rs ys k w = elim w.1 [
  | inl q ↦ some_needed (IsNext true rs profile) ys w.0 (Ok (Err k)) (next_needs true profile rs) q
  | inr q ↦ some_needed (IsNext true rs profile) ys w.0 (said q.0) (next_needs true profile rs) q.1
]

inside_here : (profile : Profile) (rs : List Record) (room : ℕ) (ys : List ℕ) (k : OasisKind)
    → IsWrongInside profile rs room ys k → 0 < length ys
inside_here profile rs room ys (Value f) w =
    some_needed (IsNext true rs profile) ys w.1 (Err f) (next_needs true profile rs) w.2
inside_here profile rs room ys (Block BlockLength) w = w.0
inside_here profile rs room ys (Block TooLong) w = absurd w
inside_here profile rs room ys (Block Deflate) w = absurd w
inside_here profile rs room ys AfterEnd w = absurd w
inside_here profile rs room ys k w = rule_here profile rs ys k w

pub are_inside_faults : (profile : Profile) (outer : List Record) (count : ℕ)
    → AreFaults (inside_faults profile outer count)
are_inside_faults profile outer count = record {
  grammar = inside_grammar profile outer count;
  here = λ before room ys k w. inside_here profile (outer ++ before) room ys k w;
  stops = λ before room ys text r k w p g agree fits.
      inside_stops profile (outer ++ before) room ys text r k w p g agree fits;
  cut = λ before ys text rest r c n p f e. n tt;
}

-- what bytes say about the next record is why the rule is breached
abbrev Explains : Profile → List Record → Result (Result Item OasisKind) ValueFault → OasisKind → Type 0
Explains profile rs (Err f) k = k ≡ Value f
Explains profile rs (Ok (Err j)) k = k ≡ j
Explains profile rs (Ok (Ok (item r))) k = RecordBreaches profile rs r k
Explains profile rs (Ok (Ok i)) k = ⊥

explains_once : (profile : Profile) (rs : List Record) (x : Result (Result Item OasisKind) ValueFault) (j k : OasisKind)
    → Explains profile rs x j → Explains profile rs x k → j ≡ k
explains_once profile rs (Err f) j k p q = p ∙ sym q
explains_once profile rs (Ok (Err i)) j k p q = p ∙ sym q
explains_once profile rs (Ok (Ok (item r))) j k p q = record_once profile rs r j k p q
explains_once profile rs (Ok (Ok _)) j k p q = absurd p

-- bytes at the front are why
record IsExplained (profile : Profile) (rs : List Record) (ys : List ℕ) (k : OasisKind) : Type 0 where
  count : ℕ
  says : Result (Result Item OasisKind) ValueFault
  front : FirstBytesSay (IsNext true rs profile) ys count says
  why : Explains profile rs says k

-- or the block ends there
record IsCut (profile : Profile) (rs : List Record) (ys : List ℕ) (k : OasisKind) : Type 0 where
  kind : k ≡ Block BlockLength
  begun : IsBegun (IsNext true rs profile) ys

abbrev Explained : Profile → List Record → List ℕ → OasisKind → Type 0
Explained profile rs ys k = IsExplained profile rs ys k ⊎ IsCut profile rs ys k

by_rule : (profile : Profile) (rs : List Record) (ys : List ℕ) (k : OasisKind) → BreaksRuleInside profile rs ys k
    → Explained profile rs ys k
by_rule profile rs ys k w = elim w.1 [
  | inl q ↦ inl (record { count = w.0; says = Ok (Err k); front = q; why = refl })
  | inr q ↦ inl (record { count = w.0; says = said q.0; front = q.1; why = q.2 })
]

explained : (profile : Profile) (rs : List Record) (room : ℕ) (ys : List ℕ) (k : OasisKind)
    → IsWrongInside profile rs room ys k → Explained profile rs ys k
explained profile rs room ys (Value f) w = inl (record { count = w.1; says = Err f; front = w.2; why = refl })
explained profile rs room ys (Block BlockLength) w = inr (record { kind = refl; begun = w.2 })
explained profile rs room ys (Block TooLong) w = absurd w
explained profile rs room ys (Block Deflate) w = absurd w
explained profile rs room ys AfterEnd w = absurd w
explained profile rs room ys k w = by_rule profile rs ys k w

one_cause : (profile : Profile) (rs : List Record) (ys : List ℕ) (j k : OasisKind) → Explained profile rs ys j
    → Explained profile rs ys k → j ≡ k
one_cause profile rs ys j k p q = elim p [
  | inl a ↦ elim q [
    | inl b ↦
        let same : a.says ≡ b.says = front_only (IsNext true rs profile) ys a.count a.says b.says
        (next_free true rs profile) a.front b.front.bytes b.front.says (b.front.rest, inr b.front.whole) in
        explains_once profile rs a.says j k a.why (subst (λ x. Explains profile rs x k) (sym same) b.why)
    | inr b ↦ absurd (open_inside profile rs ys a.count a.says b.begun a.front)
  ]
  | inr a ↦ elim q [
    | inl b ↦ absurd (open_inside profile rs ys b.count b.says a.begun b.front)
    | inr b ↦ a.kind ∙ sym b.kind
  ]
]

-- bytes that stop at an offset are stuck there
stuck_inside : (profile : Profile) (outer : List Record) (ys : List ℕ) (k : OasisKind)
    (s : StopsInside profile outer ys k) → IsStuck (inside profile outer (length ys)) ys s.at
stuck_inside profile outer ys k s =
    law_stuck (inside_faults profile outer (length ys)) (are_inside_faults profile outer (length ys)) ys s.at s.inner k
    s.within s.front s.wrong

-- a front of the bytes is no longer
no_longer : (profile : Profile) (outer : List Record) (ys : List ℕ) (j k : OasisKind)
    (p : StopsInside profile outer ys j) (q : StopsInside profile outer ys k) → p.at < q.at → ⊥
no_longer profile outer ys j k p q less =
    (stuck_inside profile outer ys j p).none q.inner (take q.at ys) q.front
    (omega (arith, less, length-take q.at ys, q.within)) (drop q.at ys, inr (sym (take-append-drop q.at ys)))

stops_once : (profile : Profile) (outer : List Record) (ys : List ℕ) (j k : OasisKind)
    → StopsInside profile outer ys j → StopsInside profile outer ys k → j ≡ k
stops_once profile outer ys j k p q =
    let below = no_longer profile outer ys j k p q in
    let above = no_longer profile outer ys k j q p in
    let here : q.at ≡ p.at = omega (arith, below, above) in
    let front : IsFront (inside profile outer (length ys)) (take p.at ys) q.inner =
    subst (λ n. IsFront (inside profile outer (length ys)) (take n ys) q.inner) here q.front in
    let inner : q.inner ≡ p.inner =
    same_records (inside profile outer (length ys)) (inside_grammar profile outer (length ys)) (take p.at ys) q.inner
    p.inner front p.front in
    let wrong : IsWrongInside profile (outer ++ q.inner) (length ys - p.at) (drop p.at ys) k =
    subst (λ n. IsWrongInside profile (outer ++ q.inner) (length ys - n) (drop n ys) k) here q.wrong in
    let same : IsWrongInside profile (outer ++ p.inner) (length ys - p.at) (drop p.at ys) k =
    subst (λ rs. IsWrongInside profile (outer ++ rs) (length ys - p.at) (drop p.at ys) k) inner wrong in
    one_cause profile (outer ++ p.inner) (drop p.at ys) j k
    (explained profile (outer ++ p.inner) (length ys - p.at) (drop p.at ys) j p.wrong)
    (explained profile (outer ++ p.inner) (length ys - p.at) (drop p.at ys) k same)

-- a block unpacks to one list of bytes
one_list : (p : Packed) (ys zs : List ℕ) → Unpacks p ys → Unpacks p zs → ys ≡ zs
one_list p ys zs a b = (let e : Some ys ≡ Some zs = sym a.spelled ∙ b.spelled in cc)

-- and has one list of records inside
pub inside_only : (profile : Profile) (before : List Item) (p : Packed) (rs ss : List Record)
    → HasInside profile before p rs → HasInside profile before p ss → rs ≡ ss
inside_only profile before p rs ss a b =
    let e = one_list p b.bytes a.bytes b.unpacks a.unpacks in
    let other : SpellsWhole (inside profile (records before) (length a.bytes)) a.bytes ss =
    subst (λ ys. SpellsWhole (inside profile (records before) (length ys)) ys ss) e b.whole in
    one_whole (inside profile (records before) (length a.bytes))
    (inside_grammar profile (records before) (length a.bytes)) a.bytes rs ss a.whole other

breaks_none : (profile : Profile) (before : List Item) (p : Packed) (k : OasisKind) (rs : List Record)
    → BreaksInside profile before p k → HasInside profile before p rs → ⊥
breaks_none profile before p k rs w h =
    let e = one_list p h.bytes w.0 h.unpacks w.1 in
    let whole : SpellsWhole (inside profile (records before) (length w.0)) w.0 rs =
    subst (λ ys. SpellsWhole (inside profile (records before) (length ys)) ys rs) e h.whole in
    stuck_none (inside profile (records before) (length w.0)) w.0 w.2.at
    (stuck_inside profile (records before) w.0 k w.2) rs whole

-- if a block breaches a rule, it has no records inside
pub block_none : (profile : Profile) (before : List Item) (p : Packed) (rs : List Record) (k : OasisKind)
    → BlockBreaches profile before p k → HasInside profile before p rs → ⊥
block_none profile before p rs (Block TooLong) w h = omega (arith, w, h.within)
block_none profile before p rs (Block Deflate) w h = w
block_none profile before p rs (Block BlockLength) w h = elim w.1 [
  | inl n ↦ n h.bytes h.unpacks
  | inr b ↦ breaks_none profile before p (Block BlockLength) rs b h
]
block_none profile before p rs k w h = breaks_none profile before p k rs w.1 h

-- a block breaches a rule in one of three ways
record IsOver (profile : Profile) (before : List Item) (p : Packed) (k : OasisKind) : Type 0 where
  kind : k ≡ Block TooLong
  over : room_after profile before < p.count

record IsNothing (profile : Profile) (before : List Item) (p : Packed) (k : OasisKind) : Type 0 where
  kind : k ≡ Block BlockLength
  within : p.count ≤ room_after profile before
  none : (ys : List ℕ) → Unpacks p ys → ⊥

record IsWithin (profile : Profile) (before : List Item) (p : Packed) (k : OasisKind) : Type 0 where
  within : p.count ≤ room_after profile before
  breaks : BreaksInside profile before p k

abbrev Ways : Profile → List Item → Packed → OasisKind → Type 0
Ways profile before p k = IsOver profile before p k ⊎ (IsNothing profile before p k ⊎ IsWithin profile before p k)

ways : (profile : Profile) (before : List Item) (p : Packed) (k : OasisKind) → BlockBreaches profile before p k
    → Ways profile before p k
ways profile before p (Block TooLong) w = inl (record { kind = refl; over = w })
ways profile before p (Block Deflate) w = absurd w
ways profile before p (Block BlockLength) w = elim w.1 [
  | inl n ↦ inr (inl (record { kind = refl; within = w.0; none = n }))
  | inr b ↦ inr (inr (record { within = w.0; breaks = b }))
]
ways profile before p k w = inr (inr (record { within = w.0; breaks = w.1 }))

breaks_once : (profile : Profile) (before : List Item) (p : Packed) (j k : OasisKind)
    → BreaksInside profile before p j → BreaksInside profile before p k → j ≡ k
breaks_once profile before p j k a b =
    let e = one_list p b.0 a.0 b.1 a.1 in
    stops_once profile (records before) a.0 j k a.2
    (subst (λ ys. StopsInside profile (records before) ys k) e b.2)

one_way : (profile : Profile) (before : List Item) (p : Packed) (j k : OasisKind)
    → Ways profile before p j → Ways profile before p k → j ≡ k
one_way profile before p j k x y = elim x [
  | inl a ↦ elim y [
    | inl b ↦ a.kind ∙ sym b.kind
    | inr s ↦ elim s [
      | inl b ↦ absurd (omega (arith, a.over, b.within))
      | inr b ↦ absurd (omega (arith, a.over, b.within))
    ]
  ]
  | inr r ↦ elim r [
    | inl a ↦ elim y [
      | inl b ↦ absurd (omega (arith, b.over, a.within))
      | inr s ↦ elim s [
        | inl b ↦ a.kind ∙ sym b.kind
        | inr b ↦ absurd (a.none b.breaks.0 b.breaks.1)
      ]
    ]
    | inr a ↦ elim y [
      | inl b ↦ absurd (omega (arith, b.over, a.within))
      | inr s ↦ elim s [
        | inl b ↦ absurd (b.none a.breaks.0 a.breaks.1)
        | inr b ↦ breaks_once profile before p j k a.breaks b.breaks
      ]
    ]
  ]
]

-- a block breaches at most one rule
pub block_once : (profile : Profile) (before : List Item) (p : Packed) (j k : OasisKind)
    → BlockBreaches profile before p j → BlockBreaches profile before p k → j ≡ k
block_once profile before p j k x y =
    one_way profile before p j k (ways profile before p j x) (ways profile before p k y)

-- a block whose bytes stop breaches that rule
pub stops_breaks : (profile : Profile) (before : List Item) (p : Packed) (ys : List ℕ) (k : OasisKind)
    → p.count ≤ room_after profile before → Unpacks p ys → StopsInside profile (records before) ys k
    → BlockBreaches profile before p k
stops_breaks profile before p ys (Block TooLong) fits u s = absurd s.wrong
stops_breaks profile before p ys (Block Deflate) fits u s = s.wrong
stops_breaks profile before p ys (Block BlockLength) fits u s = (fits, inr (ys, u, s))
stops_breaks profile before p ys k fits u s = (fits, (ys, u, s))

-- and so does one that can't be unpacked
pub unpacks_breaks : (profile : Profile) (before : List Item) (p : Packed) (room : ℕ) (k : BlockRule)
    → room ≡ room_after profile before → Refuses room p k → BlockBreaches profile before p (cause (Block k))
unpacks_breaks profile before p room TooLong e w = omega (arith, e, w)
unpacks_breaks profile before p room Deflate e w = (
  omega (arith, e, w.0),
  inl (λ ys u. (let z : None ≡ Some ys = sym w.1 ∙ u.spelled in cc)),
)
unpacks_breaks profile before p room BlockLength e w =
    (omega (arith, e, w.0), inl (λ ys u. w.1 ys u.spelled u.counted))
