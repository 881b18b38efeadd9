-- OASIS has the properties that the laws of streams need of a format.
use Rattle.std.proofs.Common.{◌≡◌, ℕ, ◌<◌, ◌≤◌, true, false, List, ◌++◌, length, take, drop, Result, Ok, Err, refl}
use Rattle.std.proofs.Common.{sym, ap, ◌∙◌}
use Rattle.std.proofs.Common.{subst}
use Rattle.std.proofs.Common.{append_assoc, inl, inr, arith, length-take}
use Rattle.std.proofs.lemmas.List.{take-append-drop}
use Rattle.lvl_io.specs.Known.{Agree}
use Rattle.lvl_io.specs.Spelling.{IsBegun}
use Rattle.lvl_io.proofs.Spelling.{front_only, breached_none, begun_open}
use Rattle.lvl_grammar.proofs.Agreeing.{agree_ends}
use Rattle.lvl_grammar.proofs.Laws.{IsGrammar, AreFaults}
use Rattle.lvl_profile.specs.declared.profile.Profile.{Profile}
use Rattle.oasis_values.specs.declared.fault.ValueFault.{ValueFault}
use Rattle.oasis_blocks.specs.Packed.{Packed as ABlock}
use Rattle.oasis_records.specs.declared.record.Record.{Record as ARecord}
use Rattle.oasis_records.specs.declared.record.Record.TheVariants.{Block as Packed}
use Rattle.oasis_stream.specs.Items.{Item, magic, item, block, records, as_packed}
use Rattle.oasis_stream.specs.Next.{IsItem}
use Rattle.oasis_stream.specs.Blocks.{HasInside}
use Rattle.oasis_stream.specs.Front.{is_block, PackedBreaches, Breaches, MayFollow, oasis}
use Rattle.oasis_stream.specs.Faults.{IsTooLong, BreaksRule, IsWrong, oasis_faults}
use Rattle.oasis_stream.specs.declared.fault.OasisKind.{OasisKind}
use Rattle.oasis_stream.specs.declared.fault.OasisKind.TheVariants.{Value, Record, Unexpected, Name, Figure, AfterEnd}
use Rattle.oasis_stream.specs.declared.fault.OasisKind.TheVariants.{TooManyCells, Block}
use Rattle.oasis_stream.proofs.Fronts.{front_in}
use Rattle.oasis_stream.proofs.Blocks.{inside_only, block_none}
use Rattle.oasis_stream.proofs.Items.{item_needs, front_needs, item_free}
use Rattle.oasis_stream.proofs.Once.{record_keeps, block_keeps}

abbrev said : Item → Result (Result Item OasisKind) ValueFault
said i = Ok (Ok i)

abbrev Spelled : Profile → List Item → List ℕ → Item → Type 0
Spelled profile before bytes i = IsItem before profile bytes (Ok (Ok (as_packed i)))

-- a record that isn't a block breaches no rule of blocks
none_packed : (profile : Profile) (before : List Item) (r : ARecord) (k : OasisKind) → is_block r ≡ false
    → PackedBreaches profile before r k → ⊥
none_packed profile before (Packed p) k e b = (let z : true ≡ false = e in cc)
none_packed profile before _ k e b = b

-- an item that may follow breaches no rule
follows_kept : (profile : Profile) (before : List Item) (i : Item) (k : OasisKind) → MayFollow profile before i
    → Breaches profile before (as_packed i) k → ⊥
follows_kept profile before magic k g b = b
follows_kept profile before (item r) k g b = elim b [
  | inl x ↦ record_keeps profile (records before) r k g.1.0 x
  | inr x ↦ none_packed profile before r k g.1.1 x
]
follows_kept profile before (block p rs) k g b = elim b [
  | inl x ↦ block_keeps profile (records before) p k x
  | inr x ↦ block_none profile before p rs k x g.1
]

same_item : (i j : Item) → said i ≡ said j → i ≡ j
same_item i j e = cc

-- items that may follow are the same if they are packed in the same way
same_follow : (profile : Profile) (before : List Item) (i j : Item) → as_packed i ≡ as_packed j
    → MayFollow profile before i → MayFollow profile before j → i ≡ j
same_follow profile before magic magic e f g = refl
same_follow profile before magic (item r) e f g = (let z : magic ≡ item r = e in cc)
same_follow profile before magic (block p rs) e f g = (let z : magic ≡ item (Packed p) = e in cc)
same_follow profile before (item r) magic e f g = (let z : item r ≡ magic = e in cc)
same_follow profile before (item r) (item s) e f g = e
same_follow profile before (item r) (block p rs) e f g =
    let z : item r ≡ item (Packed p) = e in
    let y : r ≡ Packed p = cc in
    (let x : false ≡ true = sym f.1.1 ∙ ap is_block y in cc)
same_follow profile before (block p rs) magic e f g = (let z : item (Packed p) ≡ magic = e in cc)
same_follow profile before (block p rs) (item s) e f g =
    let z : item (Packed p) ≡ item s = e in
    let y : s ≡ Packed p = cc in
    (let x : false ≡ true = sym g.1.1 ∙ ap is_block y in cc)
same_follow profile before (block p rs) (block q ss) e f g =
    let z : item (Packed p) ≡ item (Packed q) = e in
    let y : q ≡ p = cc in
    let h : HasInside profile before p ss = subst (λ (o : ABlock). HasInside profile before o ss) y g.1 in
    ap (block p) (inside_only profile before p rs ss f.1 h) ∙ ap (λ (o : ABlock). block o ss) (sym y)

-- after the same items, if two lists of bytes begin alike, they begin with the same item, spelled by the same bytes
one_item : (profile : Profile) (before : List Item) (i j : Item) (a b x y : List ℕ) → Spelled profile before a i
    → Spelled profile before b j → MayFollow profile before i → MayFollow profile before j
    → a ++ x ≡ b ++ y → (a ≡ b) × (i ≡ j)
one_item profile before i j a b x y p q f g e =
    let free = item_free before profile in
    let o = free.only a b x y (said (as_packed i)) (said (as_packed j)) p q e in
    (o.0, same_follow profile before i j (same_item (as_packed i) (as_packed j) o.1) f g)

rule_needs : (profile : Profile) (before : List Item) (room : ℕ) (ys : List ℕ) (k : OasisKind)
    → BreaksRule profile before room ys k → 0 < length ys
rule_needs profile before room ys k w = elim w.3 [
  | inl p ↦ front_needs profile before ys w.1 (Ok (Err k)) p
  | inr p ↦ front_needs profile before ys w.1 (Ok (Ok p.0)) p.1
]

-- a rule is breached only by bytes that are there
wrong_here : (profile : Profile) (before : List Item) (room : ℕ) (ys : List ℕ) (k : OasisKind)
    → IsWrong profile before room ys k → 0 < length ys
wrong_here profile before room ys (Value f) w = elim w [
  | inl p ↦ omega (arith, p.1.0)
  | inr q ↦ elim q [
    | inl p ↦ front_needs profile before ys p.2.count (Err f) p.2.front
    | inr p ↦ rule_needs profile before room ys (Value f) p
  ]
]
wrong_here profile before room ys AfterEnd w = w.2
wrong_here profile before room ys (Record k) w = rule_needs profile before room ys (Record k) w
wrong_here profile before room ys (Unexpected id) w = rule_needs profile before room ys (Unexpected id) w
wrong_here profile before room ys (Name k) w = rule_needs profile before room ys (Name k) w
wrong_here profile before room ys (Figure k) w = rule_needs profile before room ys (Figure k) w
wrong_here profile before room ys TooManyCells w = rule_needs profile before room ys TooManyCells w
wrong_here profile before room ys (Block k) w = rule_needs profile before room ys (Block k) w

-- if bytes at the front breach a rule, no item may follow
rule_stops : (profile : Profile) (before : List Item) (room : ℕ) (ys text : List ℕ) (i : Item) (k : OasisKind)
    → BreaksRule profile before room ys k
    → Spelled profile before text i → MayFollow profile before i → Agree text ys → ⊥
rule_stops profile before room ys text i k w p g agree = elim w.3 [
  | inl q ↦ (let e : Ok (Err k) ≡ said (as_packed i) = front_only (IsItem before profile) ys w.1 (Ok (Err k))
      (said (as_packed i)) (item_free before profile) q text p agree in
      let h : Err k ≡ Ok (as_packed i) = cc in cc)
  | inr q ↦
      let e : q.0 ≡ as_packed i = same_item q.0 (as_packed i) (front_only (IsItem before profile) ys w.1 (said q.0)
      (said (as_packed i)) (item_free before profile) q.1 text p agree) in
      follows_kept profile before i k g (subst (λ (j : Item). Breaches profile before j k) e q.2)
]

-- bytes that agree with the input agree with its bytes within the limit
within_room : (room : ℕ) (text ys : List ℕ) → Agree text ys
    → (x y : List ℕ) × (text ++ x ≡ take room ys ++ y)
within_room room text ys agree =
    let q = agree_ends text ys agree in (
      q.0,
      drop room ys ++ q.1,
      q.2 ∙ ap (λ l. l ++ q.1) (sym (take-append-drop room ys)) ∙ append_assoc (take room ys)
          (drop room ys) q.1,
    )

-- an unfinished beginning has no item at its front
begun_none : (profile : Profile) (before : List Item) (ys text rest : List ℕ) (i : Item)
    → IsBegun (IsItem before profile) ys
    → Spelled profile before text i → ys ≡ text ++ rest → ⊥
begun_none profile before ys text rest i b p e =
    begun_open (IsItem before profile) ys (length text) (said (as_packed i)) (item_free before profile) b
    (record { bytes = text; rest = rest; says = p; whole = e; count = refl })

long_none : (profile : Profile) (before : List Item) (room : ℕ) (ys text : List ℕ) (i : Item)
    → IsTooLong profile before room ys
    → Spelled profile before text i
    → Agree text ys → length text ≤ room → ⊥
long_none profile before room ys text i (more, (ended, begun)) p agree fits =
    let q = within_room room text ys agree in
    let l : length text ≤ length (take room ys) = omega (arith, fits, more, length-take room ys) in
    begun_none profile before (take room ys) text (drop (length text) (take room ys)) i begun p
    (front_in text (take room ys) q.0 q.1 q.2 l)

-- if a rule is breached, no item may follow
wrong_stops : (profile : Profile) (before : List Item) (room : ℕ) (ys text : List ℕ) (i : Item) (k : OasisKind)
    → IsWrong profile before room ys k
    → Spelled profile before text i → MayFollow profile before i → Agree text ys → length text ≤ room → ⊥
wrong_stops profile before room ys text i (Value f) w p g agree fits = elim w [
  | inl q ↦ long_none profile before room ys text i q.1 p agree fits
  | inr r ↦ elim r [
    | inl q ↦ breached_none (IsItem before profile) ys q.2.count f (Ok (as_packed i)) (item_free before profile)
        q.2.front text p agree
    | inr q ↦ rule_stops profile before room ys text i (Value f) q p g agree
  ]
]
wrong_stops profile before room ys text i AfterEnd w p g agree fits = g.0 w.0
wrong_stops profile before room ys text i (Record k) w p g agree fits =
    rule_stops profile before room ys text i (Record k) w p g agree
wrong_stops profile before room ys text i (Unexpected id) w p g agree fits =
    rule_stops profile before room ys text i (Unexpected id) w p g agree
wrong_stops profile before room ys text i (Name k) w p g agree fits =
    rule_stops profile before room ys text i (Name k) w p g agree
wrong_stops profile before room ys text i (Figure k) w p g agree fits =
    rule_stops profile before room ys text i (Figure k) w p g agree
wrong_stops profile before room ys text i TooManyCells w p g agree fits =
    rule_stops profile before room ys text i TooManyCells w p g agree
wrong_stops profile before room ys text i (Block k) w p g agree fits =
    rule_stops profile before room ys text i (Block k) w p g agree

pub is_grammar : (profile : Profile) → IsGrammar (oasis profile)
is_grammar profile = record {
  decided = λ before r s a b x y p q f g e. one_item profile before r s a b x y p q f g e;
  some = λ before a r p. item_needs profile before a (said (as_packed r)) p;
}

pub are_faults : (profile : Profile) → AreFaults (oasis_faults profile)
are_faults profile = record {
  grammar = is_grammar profile;
  here = wrong_here profile;
  stops = wrong_stops profile;
  cut = λ before ys text rest r c n p f e. begun_none profile before ys text rest r c.1 p e;
}
