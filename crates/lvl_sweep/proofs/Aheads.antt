-- What the first bands of two lists say about the rows from some row on.
use Rattle.std.proofs.Common.{◌≡◌, ◌≢◌, true, false, ◌&&◌, ◌||◌, cond, List, [], ◌∷◌, ℤ, ◌<ℤ◌, ◌≤ℤ◌, int_lt, int_le}
use Rattle.std.proofs.Common.{Option, None, Some, refl, sym, ◌∙◌, ap, arith, subst, ◌⊎◌, inl, inr}
use Rattle.std.specs.List.{list_any}
use Rattle.std.specs.Int.{int_min}
use Rattle.std.proofs.lemmas.Int.{ints, by_lt_z}
use Rattle.lvl_grid.specs.declared.point.Square.{Square}
use Rattle.lvl_region.specs.declared.region.Side.{Side}
use Rattle.lvl_region.specs.declared.region.Side.TheVariants.{First, Second}
use Rattle.lvl_sweep.specs.declared.rows.Ahead.{Ahead}
use Rattle.lvl_sweep.specs.declared.rows.Ahead.TheVariants.{Differ, Alike, Nothing}
use Rattle.lvl_sweep.specs.Slab.{Slab, holds, AreSteps, spans, AreIntervals, IsSlabList, slabs_cover}
use Rattle.lvl_sweep.specs.Ahead.{is_from, IsBefore, IsLeastAlone}
use Rattle.lvl_sweep.specs.inside.InStep.{IsLeastIn, IsMet, FirstIs, IsReported, IsReportedByTwo, higher_of, left_end}
use Rattle.lvl_sweep.proofs.BandLists.{cover_is, in_value}
use Rattle.lvl_sweep.proofs.Firsts.{Stands, stands, early, here, other_side, or_false, flip_on}
use Rattle.lvl_sweep.proofs.Slabs.{early_rest, inside, left_of, right_of}

-- in the rows of a band, its intervals say what is covered
pub cover_in : (b : Slab) (t : Square) → b.from ≤ℤ t.y → t.y <ℤ b.to
    → slabs_cover (b ∷ []) t ≡ list_any (spans t.x) b.value
cover_in b t le lt = rw (inside b t.y le lt) (or_false (list_any (spans t.x) b.value))

pub cover_below : (b : Slab) (t : Square) → t.y <ℤ b.from → slabs_cover (b ∷ []) t ≡ false
cover_below b t lt = rw (left_of b t.y lt) refl

pub cover_first : (b : Slab) (bs : List Slab) (t : Square) → AreSteps (b ∷ bs) → t.y <ℤ b.to
    → slabs_cover (b ∷ bs) t ≡ slabs_cover (b ∷ []) t
cover_first b bs t steps lt =
    let none : slabs_cover bs t ≡ false = cover_is t bs steps.2 ∙ ap (in_value t.x)
    (early_rest b bs t.y steps.1 steps.2 lt) in
    ap (λ r. (holds b t.y && list_any (spans t.x) b.value) || r) none

pub cover_past : (b : Slab) (bs : List Slab) (t : Square) → b.to ≤ℤ t.y → slabs_cover (b ∷ bs) t ≡ slabs_cover bs t
cover_past b bs t le = rw (right_of b t.y le) refl

-- the first row of a band, of those from a row on
pub record IsHigh (from : Option ℤ) (b : Slab) (h : ℤ) : Type 0 where
  pub lt : h <ℤ b.to
  pub there : is_from from h ≡ true
  pub low : b.from ≤ℤ h
  pub under : (y : ℤ) → is_from from y ≡ true → y <ℤ h → y <ℤ b.from

high_of : (from : Option ℤ) (b : Slab) → IsMet from b → IsHigh from b (higher_of b.from from)
high_of None b h = record { lt = h.full; there = refl; low = omega (arith, ints); under = λ y k lt. lt }
high_of (Some a) b h =
    let le : a ≤ℤ b.to = let t : int_le a b.to ≡ true = h.above in grind (arith, ints) in
    let apart : ¬ (a ≡ b.to) = λ e. h.past (ap Some e) in
    let lt : a <ℤ b.to = by_lt_z a b.to (λ k. k) (λ k. absurd (apart (omega (arith, ints, le, k)))) in
    by_lt_z b.from a
    (λ k. let t : int_lt b.from a ≡ true = grind (arith, ints) in rw t (record {
      lt = lt;
      there = grind (arith, ints);
      low = omega (arith, ints, k);
      under = λ y past under. absurd (let up : a ≤ℤ y = grind (arith, ints) in omega (arith, ints, up, under));
    }))
    (λ k. let t : int_lt b.from a ≡ false = grind (arith, ints) in rw t (record {
      lt = h.full;
      there = grind (arith, ints);
      low = omega (arith, ints);
      under = λ y past under. under;
    }))

pub high_is : (from : Option ℤ) (b : Slab) (h : ℤ) → IsMet from b → h ≡ higher_of b.from from → IsHigh from b h
high_is from b h met e = subst (λ (v : ℤ). IsHigh from b v) (sym e) (high_of from b met)

pub left_has : (is : List (ℤ × ℤ)) → is ≢ [] → AreIntervals is → list_any (spans (left_end is)) is ≡ true
left_has [] some row = absurd (some refl)
left_has (i ∷ is) some row =
    let s : Stands [] i is = stands [] i is row in here i.0 [] i is s (omega (arith, ints)) s.full

left_least : (is : List (ℤ × ℤ)) (z : ℤ) → AreIntervals is → z <ℤ left_end is → list_any (spans z) is ≡ false
left_least [] z row lt = refl
left_least (i ∷ is) z row lt = let s : Stands [] i is = stands [] i is row in early z [] i is s lt

-- the leftmost square of a band's first row is the least one if the other list covers nothing up to it
pub first_alone : (from : Option ℤ) (b : Slab) (vs : List Slab) (s : Square) → IsMet from b → IsHigh from b s.y
    → s.x ≡ left_end b.value → ((t : Square) → is_from from t.y ≡ true → t.y ≤ℤ s.y → slabs_cover vs t ≡ false)
    → IsLeastAlone from (b ∷ []) vs s First
first_alone from b vs s met high at none = record {
  there = high.there;
  on = (
    cover_in b s high.low high.lt ∙ rw at (left_has b.value met.some met.row),
    none s high.there (omega (arith, ints)),
  );
  least = λ t past before. elim before [
    | inl lower ↦ cover_below b t (high.under t.y past lower) ∙ sym (none t past (omega (arith, ints, lower)))
    | inr level ↦
        let inrow : b.from ≤ℤ t.y = omega (arith, ints, high.low, level.0) in
        let under : t.y <ℤ b.to = omega (arith, ints, high.lt, level.0) in
        let lt : t.x <ℤ left_end b.value = rw at at level.1 in
        cover_in b t inrow under ∙ (left_least b.value t.x met.row lt
        ∙ sym (none t past (omega (arith, ints, level.0))))
  ];
}

pub exchanged : (from : Option ℤ) (us vs : List Slab) (s : Square) (side : Side) → IsLeastAlone from us vs s side
    → IsLeastAlone from vs us s (other_side side)
exchanged from us vs s side h =
    record {
      there = h.there;
      on = flip_on (slabs_cover us s) (slabs_cover vs s) side h.on;
      least = λ t past before. sym (h.least t past before);
    }

below_high : (from : Option ℤ) (d : Slab) (h : ℤ) (t : Square) → IsHigh from d h → is_from from t.y ≡ true → t.y <ℤ h
    → slabs_cover (d ∷ []) t ≡ false
below_high from d h t high past lt = cover_below d t (high.under t.y past lt)

-- the first row of the first side's band is lower
pub reported_lower : (from : Option ℤ) (b d : Slab) (s : Square) (o : ℤ) → IsMet from b → IsHigh from b s.y
    → IsHigh from d o → s.x ≡ left_end b.value → s.y <ℤ o → IsReportedByTwo from b d (Differ s First)
reported_lower from b d s o met high other at lt = (
  high.lt,
  omega (arith, ints, lt, other.lt),
  first_alone from b (d ∷ []) s met
      high at (λ t past le. below_high from d o t other past (omega (arith, ints, le, lt))),
)

-- the first row of the second side's band is lower
pub reported_upper : (from : Option ℤ) (b d : Slab) (s : Square) (o : ℤ) → IsMet from d → IsHigh from d s.y
    → IsHigh from b o → s.x ≡ left_end d.value → s.y <ℤ o → IsReportedByTwo from b d (Differ s Second)
reported_upper from b d s o met high other at lt = (
  omega (arith, ints, lt, other.lt),
  high.lt,
  exchanged from (d ∷ []) (b ∷ []) s First
      (first_alone from d (b ∷ []) s met high at (λ t past le. below_high from b o t other past
      (omega (arith, ints, le, lt)))),
)

-- both have the same first row, and differ in it
pub reported_row : (from : Option ℤ) (b d : Slab) (x h : ℤ) (side : Side) → IsHigh from b h → IsHigh from d h
    → IsLeastIn b.value d.value x side → IsReportedByTwo from b d (Differ (record { x = x; y = h }) side)
reported_row from b d x h side ours theirs row =
    let s : Square = record { x = x; y = h } in (
      ours.lt,
      theirs.lt,
      record {
        there = ours.there;
        on = rw (cover_in b s ours.low ours.lt, cover_in d s theirs.low theirs.lt) row.on;
        least = λ t past before. elim before [
          | inl lower ↦ below_high from b h t ours past lower ∙ sym (below_high from d h t theirs past lower)
          | inr level ↦ cover_in b t (omega (arith, ints, ours.low, level.0)) (omega (arith, ints, ours.lt, level.0))
              ∙ (row.least t.x level.1 ∙ sym (cover_in d t (omega (arith, ints, theirs.low, level.0))
              (omega (arith, ints, theirs.lt, level.0))))
        ];
      },
    )

later_on : (from : Option ℤ) (h y : ℤ) → is_from from h ≡ true → h <ℤ y → is_from from y ≡ true
later_on None h y k lt = refl
later_on (Some a) h y k lt = grind (arith, ints)

-- both have the same first row and the same intervals
pub reported_alike : (from : Option ℤ) (b d : Slab) (h y : ℤ) → IsHigh from b h → IsHigh from d h
    → ((z : ℤ) → list_any (spans z) b.value ≡ list_any (spans z) d.value) → y ≤ℤ b.to → y ≤ℤ d.to
    → (b.to ≡ y) ⊎ (d.to ≡ y) → IsReportedByTwo from b d (Alike y)
reported_alike from b d h y ours theirs same le le' ends =
    let lt : h <ℤ y = elim ends [ inl e ↦ omega (arith, ints, ours.lt, e) | inr e ↦ omega (arith, ints, theirs.lt, e) ]
    in
    record {
      there = later_on from h y ours.there lt;
      ours = le;
      theirs = le';
      ends = ends;
      same = λ t past under. by_lt_z t.y h
          (λ low. below_high from b h t ours past low ∙ sym (below_high from d h t theirs past low))
          (λ up. cover_in b t (omega (arith, ints, ours.low, up)) (omega (arith, ints, under, le))
          ∙ (same t.x ∙ sym (cover_in d t (omega (arith, ints, theirs.low, up))
          (omega (arith, ints, under, le')))));
    }

up_to : (t s : Square) → IsBefore t s → t.y ≤ℤ s.y
up_to t s (inl lt) = omega (arith, ints, lt)
up_to t s (inr h) = omega (arith, ints, h.0)

-- what holds for the first bands alone holds for their lists
reported_lists : (from : Option ℤ) (b d : Slab) (bs ds : List Slab) (r : Ahead) → AreSteps (b ∷ bs) → AreSteps (d ∷ ds)
    → IsReportedByTwo from b d r → IsReported from (b ∷ bs) (d ∷ ds) r
reported_lists from b d bs ds (Differ s side) us vs h = record {
  there = h.2.there;
  on = rw (cover_first b bs s us h.0, cover_first d ds s vs h.1) h.2.on;
  least = λ t past before.
      let le : t.y ≤ℤ s.y = up_to t s before in
      cover_first b bs t us (omega (arith, ints, le, h.0))
      ∙ (h.2.least t past before ∙ sym (cover_first d ds t vs (omega (arith, ints, le, h.1))));
}
reported_lists from b d bs ds (Alike y) us vs h = record {
  there = h.there;
  ours = h.ours;
  theirs = h.theirs;
  ends = h.ends;
  same = λ t past lt. cover_first b bs t us (omega (arith, ints, lt, h.ours))
      ∙ (h.same t past lt ∙ sym (cover_first d ds t vs (omega (arith, ints, lt, h.theirs))));
}
reported_lists from b d bs ds Nothing us vs h = absurd h

pub reported_both : (from : Option ℤ) (us vs bs ds : List Slab) (b d : Slab) (r : Ahead) → us ≡ b ∷ bs → vs ≡ d ∷ ds
    → IsSlabList us → IsSlabList vs → IsReportedByTwo from b d r → IsReported from us vs r
reported_both from us vs bs ds b d r e f ours theirs h =
    let reported : IsReported from (b ∷ bs) (d ∷ ds) r = reported_lists from b d bs ds r (subst AreSteps e ours.steps)
    (subst AreSteps f theirs.steps) h in
    subst (λ (l : List Slab). IsReported from l vs r) (sym e)
    (subst (λ (l : List Slab). IsReported from (b ∷ bs) l r) (sym f) reported)

one_list : (from : Option ℤ) (b : Slab) (bs : List Slab) (s : Square) → AreSteps (b ∷ bs) → s.y <ℤ b.to
    → IsLeastAlone from (b ∷ []) [] s First → IsLeastAlone from (b ∷ bs) [] s First
one_list from b bs s steps lt h = record {
  there = h.there;
  on = rw (cover_first b bs s steps lt) h.on;
  least = λ t past before.
      let le : t.y ≤ℤ s.y = up_to t s before in
      cover_first b bs t steps (omega (arith, ints, le, lt)) ∙ h.least t past before;
}

left_alone : (from : Option ℤ) (us vs bs : List Slab) (b : Slab) (s : Square) → us ≡ b ∷ bs → vs ≡ [] → IsSlabList us
    → IsMet from b → s.x ≡ left_end b.value → s.y ≡ higher_of b.from from → IsLeastAlone from us vs s First
left_alone from us vs bs b s e f ours met x y =
    let high : IsHigh from b s.y = high_is from b s.y met y in
    let one : IsLeastAlone from (b ∷ bs) [] s First = one_list from b bs s (subst AreSteps e ours.steps) high.lt
    (first_alone from b [] s met high x (λ t past le. refl)) in
    subst (λ (l : List Slab). IsLeastAlone from l vs s First) (sym e)
    (subst (λ (l : List Slab). IsLeastAlone from (b ∷ bs) l s First) (sym f) one)

-- only one side has a band
pub reported_first : (from : Option ℤ) (us vs bs : List Slab) (b : Slab) (s : Square) → us ≡ b ∷ bs → vs ≡ []
    → IsSlabList us → IsMet from b → s.x ≡ left_end b.value → s.y ≡ higher_of b.from from
    → IsReported from us vs (Differ s First)
reported_first from us vs bs b s e f ours met x y = left_alone from us vs bs b s e f ours met x y

pub reported_second : (from : Option ℤ) (us vs ds : List Slab) (d : Slab) (s : Square) → us ≡ [] → vs ≡ d ∷ ds
    → IsSlabList vs → IsMet from d → s.x ≡ left_end d.value → s.y ≡ higher_of d.from from
    → IsReported from us vs (Differ s Second)
reported_second from us vs ds d s e f theirs met x y =
    exchanged from vs us s First (left_alone from vs us ds d s f e theirs met x y)

pub met_first : (from : Option ℤ) (us bs : List Slab) (b : Slab) → us ≡ b ∷ bs → FirstIs (IsMet from) (Unit {0}) us
    → IsMet from b
met_first from us bs b e h = rw e at h

pub min_ends : (a b m : ℤ) → m ≡ int_min a b → (a ≡ m) ⊎ (b ≡ m)
min_ends a b m e =
    elim (int_lt b a) as (λ t. m ≡ cond t b a → (a ≡ m) ⊎ (b ≡ m)) [
      | true ↦ λ h. inr (sym h)
      | false ↦ λ h. inl (sym h)
    ] e
