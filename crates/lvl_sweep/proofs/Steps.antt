-- The steps of a function are in order and have its values.
use Rattle.std.proofs.Common.{◌≡◌, ◌≢◌, Bool, true, false, ◌&&◌, List, [], ◌∷◌, ℤ, ◌<ℤ◌, ◌≤ℤ◌, int_le, Option, None}
use Rattle.std.proofs.Common.{Some, cond, ℕ, ◌+◌, ◌<◌, zero, suc, pos, neg_ℤ, ◌+ℤ◌, unsigned_abs, refl, arith, sym, ◌∙◌}
use Rattle.std.proofs.Common.{ap}
use Rattle.std.specs.Ordering.{int_eq}
use Rattle.std.specs.Bool.{Decides}
use Rattle.std.proofs.lemmas.Int.{ints, by_lt_z}
use Rattle.std.proofs.lemmas.Bool.Decides.{Decides-int_eq}
use Rattle.std.proofs.lemmas.Bool.{and_from}
use Rattle.lvl_sweep.proofs.Slabs.{same_steps, early_rest, left_of, at_head, past_head}
use Rattle.lvl_sweep.specs.Slab.{Step, value_of, Follows, AreSteps}
use Rattle.lvl_sweep.specs.inside.Rows.{join, steps_at, from_on, steps_from}
use Rattle.lvl_sweep.specs.Ahead.{is_from}

-- the first step starts at or after a
abbrev pub StartsAt : {V : Type 0} → ℤ → List (Step V) → Type 0
StartsAt a [] = Unit {0}
StartsAt a (s ∷ ss) = a ≤ℤ s.from

sooner : {V : Type 0} (a b : ℤ) (ss : List (Step V)) → a <ℤ b → StartsAt b ss → StartsAt a ss
sooner a b [] lt h = tt
sooner a b (s ∷ ss) lt h = omega (arith, ints, lt, h)

follows_same : {V : Type 0} (t : Step V) (ts : List (Step V)) (v : V) → v ≡ t.value → Follows t ts → (a : ℤ)
    → Follows (record { from = a; to = t.to; value = v }) ts
follows_same t [] v e h a = tt
follows_same t (u ∷ us) v e h a = (h.0, λ touch same. h.1 touch (sym e ∙ same))

first_true : (p q : Bool) → (p && q) ≡ true → p ≡ true
first_true true q h = refl
first_true false q h = h

second_true : (p q : Bool) → (p && q) ≡ true → q ≡ true
second_true true q h = h
second_true false q h = absurd (let clash : false ≡ true = h in cc)

pub early : {V : Type 0} (a z : ℤ) (ss : List (Step V)) → StartsAt a ss → AreSteps ss → z <ℤ a → value_of ss z ≡ None
early a z [] h k lt = refl
early a z (s ∷ ss) h k lt =
    let low : z <ℤ s.from = omega (arith, ints, h, lt) in
    rw (left_of s z low) (early_rest s ss z k.1 k.2 (omega (arith, ints, low, k.0)))

-- what one more stretch of the function does to its steps
pub record Joins {V : Type 0} (a b : ℤ) (o : Option V) (rest whole : List (Step V)) : Type 0 where
  pub steps : AreSteps whole
  pub starts : StartsAt a whole
  pub here : (z : ℤ) → a ≤ℤ z → z <ℤ b → value_of whole z ≡ o
  pub after : (z : ℤ) → b ≤ℤ z → value_of whole z ≡ value_of rest z

joined_at : {V : Type 0} (a b : ℤ) (v : V) (t : Step V) (ts : List (Step V)) (test : Bool) → a <ℤ b → AreSteps (t ∷ ts)
    → b ≤ℤ t.from
    → (test ≡ true → (b ≡ t.from) × (v ≡ t.value)) → (test ≡ false → b ≡ t.from → v ≢ t.value)
    → Joins a b (Some v) (t ∷ ts) (cond test (record { from = a; to = t.to; value = v } ∷ ts)
    (record { from = a; to = b; value = v } ∷ t ∷ ts))
joined_at {V} a b v t ts true lt steps starts goes differs =
    let e : b ≡ t.from = (goes refl).0 in
    let f : v ≡ t.value = (goes refl).1 in
    record {
      steps = (omega (arith, ints, lt, e, steps.0), follows_same t ts v f steps.1 a, steps.2);
      starts = omega (arith, ints);
      here = λ z h k. at_head (record { from = a; to = t.to; value = v }) ts z h (omega (arith, ints, k, e, steps.0));
      after = λ z h. by_lt_z z t.to
          (λ l. at_head (record { from = a; to = t.to; value = v }) ts z (omega (arith, ints, h, lt)) l
          ∙ (ap Some f ∙ sym (at_head t ts z (omega (arith, ints, h, e)) l)))
          (λ g. past_head (record { from = a; to = t.to; value = v }) ts z g ∙ sym (past_head t ts z g));
    }
joined_at {V} a b v t ts false lt steps starts goes differs = record {
  steps = (lt, (starts, differs refl), steps);
  starts = omega (arith, ints);
  here = λ z h k. at_head (record { from = a; to = b; value = v }) (t ∷ ts) z h k;
  after = λ z h. past_head (record { from = a; to = b; value = v }) (t ∷ ts) z h;
}

join_is : {V : Type 0} (same : V → V → Bool) → ((x y : V) → Decides (same x y) (x ≡ y))
    → (a b : ℤ) (o : Option V) (rest : List (Step V)) → a <ℤ b → AreSteps rest → StartsAt b rest
    → Joins a b o rest (join same a b o rest)
join_is same laws a b None rest lt steps starts = record {
  steps = steps;
  starts = sooner a b rest lt starts;
  here = λ z h k. early b z rest starts steps k;
  after = λ z h. refl;
}
join_is same laws a b (Some v) [] lt steps starts = record {
  steps = (lt, tt, tt);
  starts = omega (arith, ints);
  here = λ z h k. at_head (record { from = a; to = b; value = v }) [] z h k;
  after = λ z h. past_head (record { from = a; to = b; value = v }) [] z h;
}
join_is same laws a b (Some v) (t ∷ ts) lt steps starts =
    joined_at a b v t ts (int_eq b t.from && same v t.value) lt steps starts
    (λ h. (
      (Decides-int_eq b t.from).0 (first_true (int_eq b t.from) (same v t.value) h),
      (laws v t.value).0 (second_true (int_eq b t.from) (same v t.value) h),
    ))
    (λ h e f. absurd (let clash : true ≡ false =
    sym (and_from (int_eq b t.from) (same v t.value) ((Decides-int_eq b t.from).1 e) ((laws v t.value).1 f)) ∙ h in
    cc))

pub record DescribesFrom {V : Type 0} (f : ℤ → Option V) (a : ℤ) (ss : List (Step V)) : Type 0 where
  pub steps : AreSteps ss
  pub starts : StartsAt a ss
  pub values : (z : ℤ) → a ≤ℤ z → value_of ss z ≡ f z

at_place : (z a : ℤ) → a ≤ℤ z → z <ℤ (a +ℤ pos 1) → a ≡ z
at_place z a h k = omega (arith, ints)

steps_at_give : {V : Type 0} (same : V → V → Bool) → ((x y : V) → Decides (same x y) (x ≡ y))
    → (f : ℤ → Option V) (a : ℤ) (n : ℕ) → ((z : ℤ) → (a +ℤ pos n) ≤ℤ z → f z ≡ None)
    → DescribesFrom f a (steps_at same f a n)
steps_at_give same laws f a zero none =
    record { steps = tt; starts = tt; values = λ z h. sym (none z (omega (arith, ints, h))) }
steps_at_give {V} same laws f a (suc n) none =
    let rest : DescribesFrom f (a +ℤ pos 1) (steps_at same f (a +ℤ pos 1) n) = steps_at_give same laws f (a +ℤ pos 1) n
    (λ z h. none z (omega (arith, ints, h))) in
    let more : Joins a (a +ℤ pos 1) (f a) (steps_at same f (a +ℤ pos 1) n)
    (join same a (a +ℤ pos 1) (f a) (steps_at same f (a +ℤ pos 1) n)) = join_is same laws a (a +ℤ pos 1) (f a)
    (steps_at same f (a +ℤ pos 1) n) (omega (arith, ints)) rest.steps rest.starts in
    record {
      steps = more.steps;
      starts = more.starts;
      values = λ z h. by_lt_z z (a +ℤ pos 1)
          (λ lt. more.here z h lt ∙ ap f (at_place z a h lt))
          (λ ge. more.after z ge ∙ rest.values z ge);
    }

-- the function has no value further than `far` from 0
abbrev pub IsNoneBeyond : {V : Type 0} → ℕ → (ℤ → Option V) → Type 0
IsNoneBeyond far f = (z : ℤ) → far < unsigned_abs z → f z ≡ None

off_place : {V : Type 0} (o : Option ℤ) (f : ℤ → Option V) (z : ℤ) → f z ≡ None → from_on o f z ≡ None
off_place {V} o f z h = elim (is_from o z) as (λ t. cond t (f z) None ≡ None) [ true ↦ h | false ↦ refl ]

pub record GivesFrom {V : Type 0} (o : Option ℤ) (f : ℤ → Option V) (ss : List (Step V)) : Type 0 where
  pub steps : AreSteps ss
  pub values : (z : ℤ) → value_of ss z ≡ from_on o f z

pub steps_give : {V : Type 0} (same : V → V → Bool) → ((x y : V) → Decides (same x y) (x ≡ y))
    → (far : ℕ) (o : Option ℤ) (f : ℤ → Option V) → IsNoneBeyond far f → GivesFrom o f (steps_from same far o f)
unfolding steps_from
steps_give {V} same laws far o f within =
    let low : ℤ = neg_ℤ (pos far) in
    let given : DescribesFrom (from_on o f) low (steps_at same (from_on o f) low (far + far + 1)) =
    steps_at_give same laws (from_on o f) low (far + far + 1)
    (λ z h. off_place o f z (within z (omega (arith, ints, h)))) in
    record {
      steps = given.steps;
      values = λ z. by_lt_z z low
          (λ lt. early low z (steps_at same (from_on o f) low (far + far + 1)) given.starts given.steps lt
          ∙ sym (off_place o f z (within z (omega (arith, ints, lt)))))
          (λ ge. given.values z ge);
    }

-- two functions that agree, each from its bound on, have the same steps
pub same_from : {V : Type 0} (same : V → V → Bool) → ((x y : V) → Decides (same x y) (x ≡ y))
    → (far far' : ℕ) (o o' : Option ℤ) (f f' : ℤ → Option V) → IsNoneBeyond far f → IsNoneBeyond far' f'
    → ((z : ℤ) → from_on o f z ≡ from_on o' f' z) → steps_from same far o f ≡ steps_from same far' o' f'
same_from same laws far far' o o' f f' within within' agree =
    let a = steps_give same laws far o f within in
    let b = steps_give same laws far' o' f' within' in
    same_steps _ _ a.steps b.steps (λ z. a.values z ∙ (agree z ∙ sym (b.values z)))

missing : {V : Type 0} (o : Option ℤ) (f : ℤ → Option V) (z : ℤ) → ((z : ℤ) → is_from o z ≡ true → f z ≡ None)
    → from_on o f z ≡ None
missing {V} o f z none =
    elim (is_from o z) as (λ t. is_from o z ≡ t → cond t (f z) None ≡ None) [ true ↦ λ e. none z e | false ↦ λ e. refl ]
    refl

-- a function without values from the bound on has no steps
pub none_from : {V : Type 0} (same : V → V → Bool) → ((x y : V) → Decides (same x y) (x ≡ y))
    → (far : ℕ) (o : Option ℤ) (f : ℤ → Option V) → IsNoneBeyond far f → ((z : ℤ) → is_from o z ≡ true → f z ≡ None)
    → steps_from same far o f ≡ []
none_from same laws far o f within none =
    let a = steps_give same laws far o f within in
    same_steps _ [] a.steps tt (λ z. a.values z ∙ missing o f z none)

from_step : {V : Type 0} (s e : ℤ) (v : V) (f : ℤ → Option V) (ss : List (Step V)) → GivesFrom (Some e) f ss
    → f e ≢ Some v → Follows (record { from = s; to = e; value = v }) ss
from_step s e v f [] given stops = tt
from_step {V} s e v f (t ∷ ts) given stops =
    let self : t.from ≤ℤ t.from = omega (arith, ints) in
    let there : value_of (t ∷ ts) t.from ≡ Some t.value = at_head t ts t.from self given.steps.0 in
    let is : from_on (Some e) f t.from ≡ Some t.value = sym (given.values t.from) ∙ there in
    let later : e ≤ℤ t.from = by_lt_z t.from e
    (λ lt. let past : int_le e t.from ≡ false = grind (arith, ints) in
    let none : from_on (Some e) f t.from ≡ None = rw past refl in
    let clash : None ≡ Some t.value = sym none ∙ is in cc)
    (λ ge. ge) in (
      later,
      λ touch same.
          let past : int_le e t.from ≡ true = grind (arith, ints) in
          let whole : from_on (Some e) f t.from ≡ f t.from = rw past refl in
          stops (ap f touch ∙ (sym whole ∙ (is ∙ ap Some (sym same)))),
    )

is_later : (o : Option ℤ) (s z : ℤ) → is_from o s ≡ true → s ≤ℤ z → is_from o z ≡ true
is_later None s z h k = refl
is_later (Some a) s z h k = grind (arith, ints)

on_place : {V : Type 0} (o : Option ℤ) (f : ℤ → Option V) (z : ℤ) → is_from o z ≡ true → from_on o f z ≡ f z
on_place o f z h = rw h refl

before_step : {V : Type 0} (o : Option ℤ) (f : ℤ → Option V) (z : ℤ) → (is_from o z ≡ true → f z ≡ None)
    → from_on o f z ≡ None
before_step {V} o f z none =
    elim (is_from o z) as (λ t. is_from o z ≡ t → cond t (f z) None ≡ None) [ true ↦ λ e. none e | false ↦ λ e. refl ]
    refl

-- a function whose first value from the bound on is v, from s up to e, has that step first, then the steps from e on
pub first_from : {V : Type 0} (same : V → V → Bool) → ((x y : V) → Decides (same x y) (x ≡ y))
    → (far : ℕ) (o : Option ℤ) (f : ℤ → Option V) (s e : ℤ) (v : V) → IsNoneBeyond far f
    → is_from o s ≡ true → s <ℤ e
    → ((z : ℤ) → is_from o z ≡ true → z <ℤ s → f z ≡ None)
    → ((z : ℤ) → s ≤ℤ z → z <ℤ e → f z ≡ Some v)
    → f e ≢ Some v
    → steps_from same far o f ≡ record { from = s; to = e; value = v } ∷ steps_from same far (Some e) f
first_from {V} same laws far o f s e v within at lt before here stops =
    let all = steps_give same laws far o f within in
    let rest = steps_give same laws far (Some e) f within in
    let head : Step V = record { from = s; to = e; value = v } in
    let tail : List (Step V) = steps_from same far (Some e) f in
    let low : (z : ℤ) → z <ℤ e → value_of tail z ≡ None = λ z k.
    let past : int_le e z ≡ false = grind (arith, ints) in
    rest.values z ∙ rw past refl in
    same_steps (steps_from same far o f) (head ∷ tail) all.steps (lt, from_step s e v f tail rest stops, rest.steps)
    (λ z.
    by_lt_z z s
    (λ k. all.values z ∙ (before_step o f z (λ t. before z t k)
    ∙ sym (rw (left_of head z k) (low z (omega (arith, ints, k, lt))))))
    (λ g. by_lt_z z e
    (λ k. all.values z ∙ (on_place o f z (is_later o s z at g) ∙ (here z g k ∙ sym (at_head head tail z g k))))
    (λ k.
    let past : int_le e z ≡ true = grind (arith, ints) in
    let right : from_on (Some e) f z ≡ f z = rw past refl in
    all.values z ∙ (on_place o f z (is_later o s z at g) ∙ sym (past_head head tail z k ∙ (rest.values z ∙ right))))))
