-- Two lists of bands walked in step.
use Rattle.std.proofs.Common.{◌≡◌, ◌≢◌, ◌+◌, ◌<◌, ◌≤◌, Bool, true, false, cond, List, [], ◌∷◌, length, ℤ, ◌<ℤ◌, ◌≤ℤ◌}
use Rattle.std.proofs.Common.{int_le, Option, None, Some, ◌↔◌, IfNone, IfSome, refl, sym, ◌∙◌, arith, inl, inr}
use Rattle.std.proofs.lemmas.Int.{ints}
use Rattle.std.proofs.lemmas.Bool.{cases_Bool, both_ways}
use Rattle.std.proofs.lemmas.List.Elements.{All-head, All-tail}
use Rattle.lvl_grid.specs.declared.point.Point.{Point}
use Rattle.lvl_grid.specs.declared.point.Square.{Square}
use Rattle.lvl_region.specs.declared.region.Side.{Side}
use Rattle.lvl_region.specs.declared.region.Side.TheVariants.{First, Second}
use Rattle.lvl_region.specs.Region.{SomeCovers, IsAlone}
use Rattle.lvl_sweep.specs.Slab.{Slab, AreIntervals, IsSlabList, slabs_cover}
use Rattle.lvl_sweep.specs.Ahead.{is_from}
use Rattle.lvl_sweep.specs.Bands.{AreBandsOf}
use Rattle.lvl_sweep.specs.Ahead.{IsOn, IsBefore, IsLeastAlone, IsUpTo}
use Rattle.lvl_sweep.specs.inside.InStep.{IsMet, FirstIs, IsAlike, ended_by}
use Rattle.lvl_sweep.proofs.Aheads.{cover_past}

-- below the row both lists cover the same, and from it on the bands that are left cover what the whole lists do
pub record InStep (from : Option ℤ) (us vs us' vs' : List Slab) : Type 0 where
  pub ours : IsSlabList us'
  pub theirs : IsSlabList vs'
  pub our_band : FirstIs (IsMet from) (Unit {0}) us'
  pub their_band : FirstIs (IsMet from) (Unit {0}) vs'
  pub seen : (t : Square) → is_from from t.y ≡ false → slabs_cover us t ≡ slabs_cover vs t
  pub our_rest : (t : Square) → is_from from t.y ≡ true → slabs_cover us t ≡ slabs_cover us' t
  pub their_rest : (t : Square) → is_from from t.y ≡ true → slabs_cover vs t ≡ slabs_cover vs' t

met_at_first : (us : List Slab) → IsSlabList us → FirstIs (IsMet None) (Unit {0}) us
met_at_first [] h = tt
met_at_first (b ∷ bs) h =
    let row = All-head (λ (c : Slab). (c.value ≢ []) × AreIntervals c.value) b bs h.rows in
    record {
      full = h.steps.0;
      some = row.0;
      row = row.1;
      above = refl;
      past = λ e. let clash : None ≡ Some b.to = e in cc;
    }

pub in_step_first : (us vs : List Slab) → IsSlabList us → IsSlabList vs → InStep None us vs us vs
in_step_first us vs ours theirs = record {
  ours = ours;
  theirs = theirs;
  our_band = met_at_first us ours;
  their_band = met_at_first vs theirs;
  seen = λ t e. absurd (let clash : true ≡ false = e in cc);
  our_rest = λ t e. refl;
  their_rest = λ t e. refl;
}

-- the rest of a slab list is one
rest_is : (b : Slab) (bs : List Slab) → IsSlabList (b ∷ bs) → IsSlabList bs
rest_is b bs h =
    record { steps = h.steps.2; rows = All-tail (λ (c : Slab). (c.value ≢ []) × AreIntervals c.value) b bs h.rows }

list_by : (b : Slab) (bs : List Slab) (t : Bool) → IsSlabList (b ∷ bs) → IsSlabList (cond t bs (b ∷ bs))
list_by b bs true h = rest_is b bs h
list_by b bs false h = h

list_on : (y : ℤ) (us : List Slab) → IsSlabList us → IsSlabList (ended_by y us)
list_on y [] h = h
list_on y (b ∷ bs) h = list_by b bs (int_le b.to y) h

met_after : (y : ℤ) (b : Slab) (bs : List Slab) → y ≤ℤ b.to → IsSlabList (b ∷ bs)
    → FirstIs (IsMet (Some y)) (Unit {0}) bs
met_after y b [] le h = tt
met_after y b (c ∷ cs) le h =
    let row = All-head (λ (d : Slab). (d.value ≢ []) × AreIntervals d.value) c cs (rest_is b (c ∷ cs) h).rows in
    let after : b.to ≤ℤ c.from = h.steps.1.0 in
    let full : c.from <ℤ c.to = h.steps.2.0 in
    let lt : y <ℤ c.to = omega (arith, ints) in
    record {
      full = full;
      some = row.0;
      row = row.1;
      above = (let t : int_le y c.to ≡ true = grind (arith, ints) in t);
      past = λ e. let same : y ≡ c.to = cc in absurd (omega (arith, ints, lt, same));
    }

met_still : (from : Option ℤ) (y : ℤ) (b : Slab) → IsMet from b → int_le b.to y ≡ false → IsMet (Some y) b
met_still from y b h t =
    let lt : y <ℤ b.to = grind (arith, ints) in
    record {
      full = h.full;
      some = h.some;
      row = h.row;
      above = (let k : int_le y b.to ≡ true = grind (arith, ints) in k);
      past = λ e. let same : y ≡ b.to = cc in absurd (omega (arith, ints, lt, same));
    }

met_on : (from : Option ℤ) (y : ℤ) (us : List Slab) → IsSlabList us → FirstIs (IsMet from) (Unit {0}) us
    → FirstIs (λ b. y ≤ℤ b.to) (Unit {0}) us → FirstIs (IsMet (Some y)) (Unit {0}) (ended_by y us)
met_on from y [] h met le = tt
met_on from y (b ∷ bs) h met le =
    elim (int_le b.to y) as (λ t. int_le b.to y ≡ t → FirstIs (IsMet (Some y)) (Unit {0}) (cond t bs (b ∷ bs))) [
      | true ↦ λ e. met_after y b bs le h
      | false ↦ λ e. met_still from y b met e
    ] refl

rest_by : (y : ℤ) (b : Slab) (bs : List Slab) (t : Square) (r : Bool) → int_le b.to y ≡ r → y ≤ℤ t.y
    → slabs_cover (b ∷ bs) t ≡ slabs_cover (cond r bs (b ∷ bs)) t
rest_by y b bs t true e le = let past : b.to ≤ℤ t.y = grind (arith, ints) in cover_past b bs t past
rest_by y b bs t false e le = refl

rest_on : (y : ℤ) (us : List Slab) (t : Square) → y ≤ℤ t.y → slabs_cover us t ≡ slabs_cover (ended_by y us) t
rest_on y [] t le = refl
rest_on y (b ∷ bs) t le = rest_by y b bs t (int_le b.to y) refl le

sooner : (from : Option ℤ) (y z : ℤ) → is_from from y ≡ true → y ≤ℤ z → is_from from z ≡ true
sooner None y z h le = refl
sooner (Some a) y z h le = grind (arith, ints)

-- both cover the same below the row
pub same_below : (from : Option ℤ) (us vs us' vs' : List Slab) (y : ℤ) → InStep from us vs us' vs'
    → IsAlike from us' vs' y → (t : Square) → t.y <ℤ y → slabs_cover us t ≡ slabs_cover vs t
same_below from us vs us' vs' y h alike t lt = elim (cases_Bool (is_from from t.y)) [
  | inl there ↦ h.our_rest t there ∙ (alike.same t there lt ∙ sym (h.their_rest t there))
  | inr below ↦ h.seen t below
]

-- both go on after the rows in which they cover the same
pub in_step_more : (from : Option ℤ) (us vs us' vs' us2 vs2 : List Slab) (y : ℤ) → us2 ≡ ended_by y us'
    → vs2 ≡ ended_by y vs' → InStep from us vs us' vs' → IsAlike from us' vs' y → InStep (Some y) us vs us2 vs2
in_step_more from us vs us' vs' us2 vs2 y e f h alike = rw (e, f) (record {
  ours = list_on y us' h.ours;
  theirs = list_on y vs' h.theirs;
  our_band = met_on from y us' h.ours h.our_band alike.ours;
  their_band = met_on from y vs' h.theirs h.their_band alike.theirs;
  seen = λ t under. same_below from us vs us' vs' y h alike t (grind (arith, ints));
  our_rest = λ t over.
      let le : y ≤ℤ t.y = grind (arith, ints) in
      h.our_rest t (sooner from y t.y alike.there le) ∙ rest_on y us' t le;
  their_rest = λ t over.
      let le : y ≤ℤ t.y = grind (arith, ints) in
      h.their_rest t (sooner from y t.y alike.there le) ∙ rest_on y vs' t le;
})

no_longer : (y : ℤ) (us : List Slab) → length (ended_by y us) ≤ length us
no_longer y [] = omega arith
no_longer y (b ∷ bs) =
    elim (int_le b.to y) as (λ t. length (cond t bs (b ∷ bs)) ≤ length (b ∷ bs)) [
      | true ↦ omega arith
      | false ↦ omega arith
    ]

shorter : (y : ℤ) (us : List Slab) → FirstIs (λ b. b.to ≡ y) ⊥ us → length (ended_by y us) < length us
shorter y [] h = absurd h
shorter y (b ∷ bs) h = let t : int_le b.to y ≡ true = grind (arith, ints) in rw t (omega arith)

-- and one of them gets shorter
pub fewer_left : (from : Option ℤ) (us vs us2 vs2 : List Slab) (y : ℤ) → us2 ≡ ended_by y us → vs2 ≡ ended_by y vs
    → IsAlike from us vs y → length us2 + length vs2 < length us + length vs
fewer_left from us vs us2 vs2 y e f alike = rw (e, f) (elim alike.ends [
  | inl h ↦ omega (arith, shorter y us h, no_longer y vs)
  | inr h ↦ omega (arith, shorter y vs h, no_longer y us)
])

covers_alike : (as' bs : List (List Point)) (us vs : List Slab) → AreBandsOf as' us → AreBandsOf bs vs → (t : Square)
    → slabs_cover us t ≡ slabs_cover vs t → SomeCovers as' t ↔ SomeCovers bs t
covers_alike as' bs us vs a b t e =
    (λ h. (b.covers t).0 (sym e ∙ (a.covers t).1 h), λ h. (a.covers t).0 (e ∙ (b.covers t).1 h))

pub same_rings : {A : Type 0} (r : Option A) (last : Option ℤ) (as' bs : List (List Point)) (us vs : List Slab)
    → AreBandsOf as' us → AreBandsOf bs vs
    → IfNone r ((t : Square) → IsUpTo last t.y → slabs_cover us t ≡ slabs_cover vs t)
    → IfNone r ((t : Square) → IsUpTo last t.y → SomeCovers as' t ↔ SomeCovers bs t)
same_rings None last as' bs us vs a b h = λ t up. covers_alike as' bs us vs a b t (h t up)
same_rings (Some x) last as' bs us vs a b h = tt

alone_by : (as' bs : List (List Point)) (us vs : List Slab) (s : Square) (side : Side) → AreBandsOf as' us
    → AreBandsOf bs vs → IsOn (slabs_cover us s) (slabs_cover vs s) side
    → IsAlone (SomeCovers as') (SomeCovers bs) s side
alone_by as' bs us vs s First a b on = ((a.covers s).0 on.0, λ c. both_ways (slabs_cover vs s) on.1 ((b.covers s).1 c))
alone_by as' bs us vs s Second a b on = ((b.covers s).0 on.1, λ c. both_ways (slabs_cover us s) on.0 ((a.covers s).1 c))

pub alone_rings : (r : Option (Square × Side)) (as' bs : List (List Point)) (us vs : List Slab) → AreBandsOf as' us
    → AreBandsOf bs vs → IfSome r (λ f. IsLeastAlone None us vs f.0 f.1)
    → IfSome r (λ f. IsAlone (SomeCovers as') (SomeCovers bs) f.0 f.1)
alone_rings None as' bs us vs a b h = tt
alone_rings (Some f) as' bs us vs a b h = alone_by as' bs us vs f.0 f.1 a b h.on

pub least_rings : (r : Option (Square × Side)) (as' bs : List (List Point)) (us vs : List Slab) → AreBandsOf as' us
    → AreBandsOf bs vs → IfSome r (λ f. IsLeastAlone None us vs f.0 f.1)
    → IfSome r (λ f. (t : Square) → IsBefore t f.0 → SomeCovers as' t ↔ SomeCovers bs t)
least_rings None as' bs us vs a b h = tt
least_rings (Some f) as' bs us vs a b h = λ t before. covers_alike as' bs us vs a b t (h.least t refl before)

-- if there is no last row, all rows are meant
pub in_all_rows : {A : Type 0} (r : Option A) (P : Square → Type 0) → IfNone r ((t : Square) → IsUpTo None t.y → P t)
    → IfNone r ((t : Square) → P t)
in_all_rows None P h = λ t. h t tt
in_all_rows (Some x) P h = tt
