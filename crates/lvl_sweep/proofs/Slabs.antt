-- A step function has only one list of steps.
use Rattle.std.proofs.Common.{◌≡◌, true, false, List, [], ◌∷◌, ℤ, ◌<ℤ◌, ◌≤ℤ◌, None, Some, refl, arith, sym, ◌∙◌}
use Rattle.std.proofs.lemmas.Int.{ints, by_lt_z}
use Rattle.lvl_sweep.specs.Slab.{Step, holds, value_of, Follows, AreSteps}

pub inside : {V : Type 0} (s : Step V) (z : ℤ) → s.from ≤ℤ z → z <ℤ s.to → holds s z ≡ true
inside s z h k = grind (arith, ints)

pub left_of : {V : Type 0} (s : Step V) (z : ℤ) → z <ℤ s.from → holds s z ≡ false
left_of s z h = grind (arith, ints)

pub right_of : {V : Type 0} (s : Step V) (z : ℤ) → s.to ≤ℤ z → holds s z ≡ false
right_of s z h = grind (arith, ints)

pub at_head : {V : Type 0} (s : Step V) (ss : List (Step V)) (z : ℤ) → s.from ≤ℤ z → z <ℤ s.to
    → value_of (s ∷ ss) z ≡ Some s.value
at_head s ss z h k = rw (inside s z h k) refl

pub past_head : {V : Type 0} (s : Step V) (ss : List (Step V)) (z : ℤ) → s.to ≤ℤ z → value_of (s ∷ ss) z ≡ value_of ss z
past_head s ss z h = rw (right_of s z h) refl

-- no step that follows s has a number before the end of s
pub early_rest : {V : Type 0} (s : Step V) (ss : List (Step V)) (z : ℤ) → Follows s ss → AreSteps ss → z <ℤ s.to
    → value_of ss z ≡ None
early_rest s [] z f a h = refl
early_rest s (t ∷ ts) z f a h =
    let low : z <ℤ t.from = omega (arith, ints, f.0) in
    let lower : z <ℤ t.to = omega (arith, ints, low, a.0) in
    rw (left_of t z low) (early_rest t ts z a.1 a.2 lower)

pub none_left_of : {V : Type 0} (s : Step V) (ss : List (Step V)) (z : ℤ) → AreSteps (s ∷ ss) → z <ℤ s.from
    → value_of (s ∷ ss) z ≡ None
none_left_of s ss z a h =
    let low : z <ℤ s.to = omega (arith, ints, a.0) in
    rw (left_of s z h) (early_rest s ss z a.1 a.2 low)

-- at the end of s its value no longer holds
ends : {V : Type 0} (s : Step V) (ss : List (Step V)) → Follows s ss → AreSteps ss → value_of ss s.to ≡ Some s.value → ⊥
ends s [] f a e = cc
ends s (t ∷ ts) f a e = by_lt_z s.to t.from
    (λ lt. let none : value_of (t ∷ ts) s.to ≡ None = none_left_of t ts s.to a lt in cc)
    (λ ge. let touch : s.to ≡ t.from = omega (arith, ints, f.0) in
    let low : t.from ≤ℤ s.to = ge in
    let high : s.to <ℤ t.to = omega (arith, ints, a.0, touch) in
    let there : value_of (t ∷ ts) s.to ≡ Some t.value = at_head t ts s.to low high in
    f.1 touch cc)

-- the least number that has a value isn't later in one list than in the other
starts : {V : Type 0} (s : Step V) (ss : List (Step V)) (t : Step V) (ts : List (Step V)) → AreSteps (s ∷ ss)
    → AreSteps (t ∷ ts) → ((z : ℤ) → value_of (s ∷ ss) z ≡ value_of (t ∷ ts) z) → t.from ≤ℤ s.from
starts s ss t ts a b same = by_lt_z s.from t.from
    (λ lt.
    let low : s.from ≤ℤ s.from = omega (arith, ints) in
    let here : value_of (s ∷ ss) s.from ≡ Some s.value = at_head s ss s.from low a.0 in
    let none : value_of (t ∷ ts) s.from ≡ None = none_left_of t ts s.from b lt in
    let both : value_of (s ∷ ss) s.from ≡ value_of (t ∷ ts) s.from = same s.from in
    cc)
    (λ ge. ge)

-- and the end of the first step isn't earlier
stops : {V : Type 0} (s : Step V) (ss : List (Step V)) (t : Step V) (ts : List (Step V)) → AreSteps (s ∷ ss)
    → AreSteps (t ∷ ts) → ((z : ℤ) → value_of (s ∷ ss) z ≡ value_of (t ∷ ts) z) → s.from ≡ t.from → s.value ≡ t.value
    → t.to ≤ℤ s.to
stops s ss t ts a b same start value = by_lt_z s.to t.to
    (λ lt.
    let low : t.from ≤ℤ s.to = omega (arith, ints, a.0, start) in
    let self : s.to ≤ℤ s.to = omega (arith, ints) in
    let there : value_of (t ∷ ts) s.to ≡ Some t.value = at_head t ts s.to low lt in
    let past : value_of (s ∷ ss) s.to ≡ value_of ss s.to = past_head s ss s.to self in
    let both : value_of (s ∷ ss) s.to ≡ value_of (t ∷ ts) s.to = same s.to in
    let goes_on : value_of ss s.to ≡ Some s.value = cc in
    absurd (ends s ss a.1 a.2 goes_on))
    (λ ge. ge)

flat : (x y : ℤ) → x ≤ℤ y → y ≤ℤ x → x ≡ y
flat x y h k = omega (arith, ints)

step_is : {V : Type 0} (s t : Step V) → s.from ≡ t.from → s.to ≡ t.to → s.value ≡ t.value → s ≡ t
step_is {V} s t e f g =
    let build : ℤ → ℤ → V → Step V = λ a b v. record { from = a; to = b; value = v } in
    let whole : build s.from s.to s.value ≡ build t.from t.to t.value = rw (e, f, g) refl in
    whole

-- lists of steps with the same values are equal
pub same_steps : {V : Type 0} (ss ts : List (Step V)) → AreSteps ss → AreSteps ts
    → ((z : ℤ) → value_of ss z ≡ value_of ts z) → ss ≡ ts
same_steps [] [] a b same = refl
same_steps [] (t ∷ ts) a b same =
    let low : t.from ≤ℤ t.from = omega (arith, ints) in
    let there : value_of (t ∷ ts) t.from ≡ Some t.value = at_head t ts t.from low b.0 in
    let both = same t.from in cc
same_steps (s ∷ ss) [] a b same =
    let low : s.from ≤ℤ s.from = omega (arith, ints) in
    let here : value_of (s ∷ ss) s.from ≡ Some s.value = at_head s ss s.from low a.0 in
    let both = same s.from in cc
same_steps {V} (s ∷ ss) (t ∷ ts) a b same =
    let back : (z : ℤ) → value_of (t ∷ ts) z ≡ value_of (s ∷ ss) z = λ z. sym (same z) in
    let start : s.from ≡ t.from = flat s.from t.from (starts t ts s ss b a back) (starts s ss t ts a b same) in
    let low : s.from ≤ℤ s.from = omega (arith, ints) in
    let low' : t.from ≤ℤ s.from = omega (arith, ints, start) in
    let high : s.from <ℤ t.to = omega (arith, ints, start, b.0) in
    let here : value_of (s ∷ ss) s.from ≡ Some s.value = at_head s ss s.from low a.0 in
    let there : value_of (t ∷ ts) s.from ≡ Some t.value = at_head t ts s.from low' high in
    let both : value_of (s ∷ ss) s.from ≡ value_of (t ∷ ts) s.from = same s.from in
    let value : s.value ≡ t.value = cc in
    let stop : s.to ≡ t.to = flat s.to t.to (stops t ts s ss b a back (sym start) (sym value))
    (stops s ss t ts a b same start value) in
    let rest : (z : ℤ) → value_of ss z ≡ value_of ts z = λ z. by_lt_z z s.to
    (λ lt.
    let lt' : z <ℤ t.to = omega (arith, ints, lt, stop) in
    early_rest s ss z a.1 a.2 lt ∙ sym (early_rest t ts z b.1 b.2 lt'))
    (λ ge.
    let ge' : t.to ≤ℤ z = omega (arith, ints, ge, stop) in
    sym (past_head s ss z ge) ∙ (same z ∙ past_head t ts z ge')) in
    let tail : ss ≡ ts = same_steps ss ts a.2 b.2 rest in
    let head : s ≡ t = step_is s t start stop value in
    cc
