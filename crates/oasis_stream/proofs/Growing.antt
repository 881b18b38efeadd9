-- A file that is accepted under a profile is accepted under each wider one.
use Rattle.std.proofs.Common.{◌≡◌, ℕ, Bool, true, false, if◌then◌else◌, List, [], ◌∷◌, ◌++◌, Result, Ok, Err, refl, sym}
use Rattle.std.proofs.Common.{subst, arith, length, not, ◌&&◌, nat_lt, ltb-true, ltb-false}
use Rattle.lvl_io.specs.Spelling.{UnlessBreached}
use Rattle.lvl_grammar.specs.Front.{SpellsAll, FollowAll, SpellsWhole}
use Rattle.lvl_profile.specs.Limits.{AreWithin}
use Rattle.lvl_profile.specs.Profiles.{IsWider}
use Rattle.lvl_profile.specs.declared.limits.Limits.{Limits}
use Rattle.lvl_profile.specs.declared.profile.Profile.{Profile}
use Rattle.oasis_values.specs.Numbers.{IsUnsigned}
use Rattle.oasis_values.proofs.Codes.{seen_code}
use Rattle.oasis_values.proofs.Integers.{unsigned_code}
use Rattle.oasis_values.specs.declared.fault.ValueFault.{ValueFault}
use Rattle.oasis_records.specs.Magic.{magic as magic_bytes}
use Rattle.oasis_records.specs.Sizes.{Sized}
use Rattle.oasis_records.specs.declared.fault.RecordRule.{RecordRule}
use Rattle.oasis_records.specs.declared.measured.Measured.{Measured}
use Rattle.oasis_records.specs.declared.record.Record.{Record}
use Rattle.oasis_records.specs.declared.record_type.RecordType.{RecordType}
use Rattle.oasis_records.proofs.Ignored.{type_grows}
use Rattle.oasis_records.proofs.Sizes.{sized_code}
use Rattle.oasis_records.proofs.Whole.{magic_code}
use Rattle.oasis_blocks.specs.Packed.{Packed}
use Rattle.oasis_figures.proofs.Growing.{none_grows}
use Rattle.oasis_stream.specs.Items.{Item, magic, item, block, records, as_packed}
use Rattle.oasis_stream.specs.Order.{at_end, cells_in, opens_cell, mixes, is_expected_in, allowed, type_by, type_after}
use Rattle.oasis_stream.specs.Next.{of_magic, IsTyped, IsTypedAfter, IsNext, IsItem}
use Rattle.oasis_stream.specs.Blocks.{inside, HasInside}
use Rattle.oasis_stream.specs.Front.{Keeps, oasis}
use Rattle.oasis_stream.specs.Rules.{since_cell, KeepsRules}
use Rattle.oasis_stream.specs.declared.fault.OasisKind.{OasisKind}
use Rattle.oasis_stream.specs.declared.fault.OasisKind.TheVariants.{Record as OfRecord, Unexpected, Name, TooManyCells}
use Rattle.oasis_stream.specs.declared.fault.NameRule.TheVariants.{Mixed}
use Rattle.oasis_stream.proofs.Items.{typed_code}

none_typed : (b : Bool) (x y : OasisKind) (t : RecordType)
    → ◌≡◌ {A = Result RecordType OasisKind} (if b then Err x else Err y) (Ok t) → ⊥
none_typed true x y t e = (let h : Err x ≡ Ok t = e in cc)
none_typed false x y t e = (let h : Err y ≡ Ok t = e in cc)

-- wider limits allow as many cells
allowed_grows : (less more : Limits) → AreWithin less more → (rs : List Record) (k t : RecordType)
    → allowed less rs (Ok k) ≡ Ok t → allowed more rs (Ok k) ≡ Ok t
allowed_grows less more within rs k t =
    go (mixes rs k) (opens_cell k) (nat_lt n less.cells) (nat_lt n more.cells) refl refl
  where
    n : ℕ
    n = length (cells_in rs)

    full : Bool → Result RecordType OasisKind
    full b = if b then Err TooManyCells else Ok k

    go : (m o a b : Bool) → nat_lt n less.cells ≡ a → nat_lt n more.cells ≡ b
        → (if m then Err (Name Mixed) else full (o && not a)) ≡ Ok t
        → (if m then Err (Name Mixed) else full (o && not b)) ≡ Ok t
    go true o a b p q e = (let z : Err (Name Mixed) ≡ Ok t = e in cc)
    go false false a b p q e = e
    go false true true true p q e = e
    go false true true false p q e =
        absurd (omega (arith, ltb-true n less.cells p, ltb-false n more.cells q, within.cells))
    go false true false b p q e = (let z : Err TooManyCells ≡ Ok t = e in cc)

by_grows : (within_block : Bool) (less more : Limits) → AreWithin less more → (rs : List Record) (id : ℕ)
    (r s : Result RecordType RecordRule) (t : RecordType) → ((k : RecordType) → r ≡ Ok k → s ≡ Ok k)
    → type_by within_block less rs id r ≡ Ok t → type_by within_block more rs id s ≡ Ok t
by_grows within_block less more within rs id (Ok k) s t h e =
    subst (λ u. type_by within_block more rs id u ≡ Ok t) (sym (h k refl)) (go (is_expected_in within_block rs (Ok k)) e)
  where
    go : (b : Bool) → (if b then allowed less rs (Ok k) else Err (Unexpected id)) ≡ Ok t
        → (if b then allowed more rs (Ok k) else Err (Unexpected id)) ≡ Ok t
    go true x = allowed_grows less more within rs k t x
    go false x = x
by_grows within_block less more within rs id (Err f) s t h e =
    absurd (none_typed (is_expected_in within_block rs (Err f)) (OfRecord f) (Unexpected id) t e)

typed_grows : (less more : Profile) → IsWider less more → (b : Bool) (n : ℕ) (r s : Result RecordType OasisKind)
    → ((k : RecordType) → r ≡ Ok k → s ≡ Ok k) → (bytes : List ℕ) (i : Item)
    → IsTyped b n r less bytes (Ok (Ok i)) → IsTyped b n s more bytes (Ok (Ok i))
typed_grows less more within b n (Ok k) s h bytes i p =
    subst (λ u. IsTyped b n u more bytes (Ok (Ok i))) (sym (h k refl))
    ((typed_code b n (Ok k)).grows less more within bytes (Ok i) p)
typed_grows less more within b n (Err k) s h bytes i p = absurd (let e : Ok (Ok i) ≡ Ok (Err k) = p.1 in cc)

next_grows : (within_block : Bool) (less more : Profile) → IsWider less more → (rs : List Record) (bytes first second : List ℕ) (i : Item)
    (m : Result Measured ValueFault) → Sized IsUnsigned less first m
    → UnlessBreached (λ id. IsTypedAfter within_block rs id less) m second (Ok (Ok i)) → bytes ≡ first ++ second
    → IsNext within_block rs more bytes (Ok (Ok i))
next_grows within_block less more within rs bytes first second i (Ok id) p q e =
    record {
      value = Ok id;
      first = first;
      second = second;
      first_says = (sized_code unsigned_code).grows less more within first id p;
      second_says = typed_grows less more within (at_end rs) id.len (type_after within_block less rs id.value)
          (type_after within_block more rs id.value)
          (λ k h. by_grows within_block less.limits more.limits within.limits rs id.value _ _ k
          (type_grows less more within id.value) h) second i q;
      joined = e;
    }
next_grows within_block less more within rs bytes first second i (Err f) p q e = absurd (let h : Ok (Ok i) ≡ Err f = q.1 in cc)

item_grows : (less more : Profile) → IsWider less more → (before : List Item) (bytes : List ℕ) (i : Item)
    → IsItem before less bytes (Ok (Ok i)) → IsItem before more bytes (Ok (Ok i))
item_grows less more within [] bytes i p =
    (seen_code of_magic (magic_code magic_bytes)).grows less more within bytes (Ok i) p
item_grows less more within (j ∷ js) bytes i p =
    next_grows false less more within (records (j ∷ js)) bytes p.first p.second i p.value p.first_says p.second_says p.joined

all_grow : (less more : Profile) → IsWider less more → (before is : List Item) (bytes : List ℕ)
    → SpellsAll (oasis less) before bytes is → SpellsAll (oasis more) before bytes is
all_grow less more within before [] bytes p = p
all_grow less more within before (i ∷ is) bytes p = (
  p.0,
  p.1,
  item_grows less more within before p.0 (as_packed i) p.2,
  all_grow less more within (before ++ i ∷ []) is p.1 p.3,
  p.4,
)

-- wider limits allow as many records inside a block
inside_all_grow : (less more : Profile) → IsWider less more → (outer before rs : List Record) (count : ℕ)
    (bytes : List ℕ)
    → SpellsAll (inside less outer count) before bytes rs → SpellsAll (inside more outer count) before bytes rs
inside_all_grow less more within outer before [] count bytes p = p
inside_all_grow less more within outer before (r ∷ rs) count bytes p =
    let s = p.2 in (
      p.0,
      p.1,
      next_grows true less more within (outer ++ before) p.0 s.first s.second (item r) s.value s.first_says s.second_says
          s.joined,
      inside_all_grow less more within outer (before ++ r ∷ []) rs count p.1 p.3,
      p.4,
    )

-- a record that breaches no rule breaches none under a wider profile
rules_grow : (less more : Profile) → IsWider less more → (rs : List Record) (r : Record) → KeepsRules less rs r
    → KeepsRules more rs r
rules_grow less more within rs r k =
    (k.0, none_grows less.ignore more.ignore within.ignore (since_cell rs) r k.1)

inside_follow_all : (less more : Profile) → IsWider less more → (outer before rs : List Record) (count : ℕ)
    → FollowAll (inside less outer count) before rs → FollowAll (inside more outer count) before rs
inside_follow_all less more within outer before [] count p = p
inside_follow_all less more within outer before (r ∷ rs) count p = (
  rules_grow less more within (outer ++ before) r p.0,
  inside_follow_all less more within outer
      (before ++ r ∷ []) rs count p.1,
)

inside_grows : (less more : Profile) → IsWider less more → (before : List Item) (p : Packed) (rs : List Record)
    → HasInside less before p rs → HasInside more before p rs
inside_grows less more within before p rs h =
    let n = length h.bytes in
    let outer = records before in
    record {
      bytes = h.bytes;
      unpacks = h.unpacks;
      within = omega (arith, h.within, within.limits.file);
      whole = record {
        front = record {
          spelled = inside_all_grow less more within outer [] rs n h.bytes h.whole.front.spelled;
          followed = inside_follow_all less more within outer [] rs n h.whole.front.followed;
          within = h.whole.front.within;
        };
        whole = tt;
      };
    }

keeps_grow : (less more : Profile) → IsWider less more → (before : List Item) (i : Item) → Keeps less before i
    → Keeps more before i
keeps_grow less more within before magic k = k
keeps_grow less more within before (item r) k = (rules_grow less more within (records before) r k.0, k.1)
keeps_grow less more within before (block p rs) k = inside_grows less more within before p rs k

-- an item that may follow may follow under a wider profile
follow_all : (less more : Profile) → IsWider less more → (before is : List Item) → FollowAll (oasis less) before is
    → FollowAll (oasis more) before is
follow_all less more within before [] p = p
follow_all less more within before (i ∷ is) p =
    ((p.0.0, keeps_grow less more within before i p.0.1), follow_all less more within (before ++ i ∷ []) is p.1)

-- it is then a whole file of the same items
pub whole_grows : (less more : Profile) → IsWider less more → (bytes : List ℕ) (is : List Item)
    → SpellsWhole (oasis less) bytes is → SpellsWhole (oasis more) bytes is
whole_grows less more within bytes is p =
    record {
      front = record {
        spelled = all_grow less more within [] is bytes p.front.spelled;
        followed = follow_all less more within [] is p.front.followed;
        within = omega (arith, p.front.within, within.limits.file);
      };
      whole = p.whole;
    }
