-- The list of a row's intervals.
use Rattle.std.proofs.Common.{◌≡◌, Bool, true, false, ◌||◌, cond, List, [], ◌∷◌, map, zero, suc, ℤ, ◌<ℤ◌, ◌≤ℤ◌, Option}
use Rattle.std.proofs.Common.{None, Some, All, refl, sym, ◌∙◌, ap, arith}
use Rattle.std.specs.List.{list_any, AllPairs}
use Rattle.std.specs.Bool.{Decides}
use Rattle.std.proofs.lemmas.Int.{ints}
use Rattle.std.proofs.lemmas.List.Elements.{All-weaker, All-nil, All-cons}
use Rattle.lvl_sweep.specs.declared.edge.Edge.{Edge}
use Rattle.lvl_sweep.specs.Slab.{Step, holds, value_of, Follows, AreSteps, spans, AreIntervals}
use Rattle.lvl_sweep.specs.Ahead.{is_from}
use Rattle.lvl_sweep.specs.inside.Rows.{steps_from, inside, far_of, Balanced, ends, row_from, row}
use Rattle.lvl_sweep.proofs.Steps.{IsNoneBeyond, steps_give, none_from, first_from, same_from}
use Rattle.lvl_sweep.proofs.Insides.{inside_far}

-- whether a row is inside at an abscissa, as a value of steps
abbrev mark : List Edge → ℤ → Option (Unit {0})
mark es z = cond (inside es z) (Some tt) None

one_value : (x y : Unit {0}) → Decides true (x ≡ y)
one_value x y = (λ h. refl, λ h. refl)

within : (es : List Edge) → Balanced es → IsNoneBeyond (far_of es) (mark es)
within es balanced z far = rw (inside_far es z balanced far) refl

-- nothing inside from the place on
pub row_none : (es : List Edge) (o : Option ℤ) → Balanced es → ((z : ℤ) → is_from o z ≡ true → inside es z ≡ false)
    → row_from es o ≡ []
unfolding row_from
row_none es o balanced none =
    ap (map ends) (none_from (λ u v. true) one_value (far_of es) o (mark es) (within es balanced)
    (λ z h. rw (none z h) refl))

-- the first interval from the place on, and the rest
pub row_first : (es : List Edge) (o : Option ℤ) (s e : ℤ) → Balanced es → is_from o s ≡ true → s <ℤ e
    → ((z : ℤ) → is_from o z ≡ true → z <ℤ s → inside es z ≡ false)
    → ((z : ℤ) → s ≤ℤ z → z <ℤ e → inside es z ≡ true)
    → inside es e ≡ false
    → row_from es o ≡ (s, e) ∷ row_from es (Some e)
unfolding row_from
row_first es o s e balanced at lt before here stops =
    ap (map ends) (first_from (λ u v. true) one_value (far_of es) o (mark es) s e tt (within es balanced) at lt
    (λ z h k. rw (before z h k) refl) (λ z h k. rw (here z h k) refl) (λ h. let none : mark es e ≡ None =
    rw stops refl in let clash : None ≡ Some tt = sym none ∙ h in cc))

-- edges with the same windings have the same intervals
pub row_same : (es fs : List Edge) → Balanced es → Balanced fs → ((z : ℤ) → inside es z ≡ inside fs z) → row es ≡ row fs
unfolding row_from
row_same es fs b c agree =
    ap (map ends) (same_from (λ u v. true) one_value (far_of es) (far_of fs) None None (mark es) (mark fs) (within es b)
    (within fs c) (λ z. ap (λ t. cond t (Some tt) None) (agree z)))

spans_first : (z : ℤ) (s : Step (Unit {0})) (ss : List (Step (Unit {0}))) (t : Bool)
    → value_of ss z ≡ cond t (Some tt) None → value_of (s ∷ ss) z ≡ cond (spans z (ends s) || t) (Some tt) None
spans_first z s ss t h =
    elim (holds s z) as (λ b. cond b (Some tt) (value_of ss z) ≡ cond (b || t) (Some tt) None) [
      | true ↦ refl
      | false ↦ h
    ]

pub spans_value : (z : ℤ) (ss : List (Step (Unit {0}))) → value_of ss z ≡ cond (list_any (spans z) (map ends ss))
    (Some tt) None
spans_value z [] = refl
spans_value z (s ∷ ss) = spans_first z s ss (list_any (spans z) (map ends ss)) (spans_value z ss)

abbrev pub token : Bool → Option (Unit {0})
token t = cond t (Some tt) None

same_mark : (a b : Bool) → token a ≡ token b → a ≡ b
same_mark true true h = refl
same_mark true false h = cc
same_mark false true h = cc
same_mark false false h = refl

-- the intervals of a row have exactly the abscissas that are inside
pub row_covers : (es : List Edge) (z : ℤ) → Balanced es → list_any (spans z) (row es) ≡ inside es z
unfolding row_from
row_covers es z balanced =
    let given = steps_give (λ u v. true) one_value (far_of es) None (mark es) (within es balanced) in
    same_mark (list_any (spans z) (map ends (steps_from (λ u v. true) (far_of es) None (mark es)))) (inside es z)
    (sym (spans_value z (steps_from (λ u v. true) (far_of es) None (mark es))) ∙ given.values z)

pub all_pairs_cons : {A : Type 0} (R : A → A → Type 0) (x : A) (xs : List A) → All (R x) xs → AllPairs R xs
    → AllPairs R (x ∷ xs)
all_pairs_cons R x xs h p zero zero d lt far = absurd (omega arith)
all_pairs_cons R x xs h p zero (suc j) d lt far = h j d (omega (arith, far))
all_pairs_cons R x xs h p (suc i) zero d lt far = absurd (omega arith)
all_pairs_cons R x xs h p (suc i) (suc j) d lt far = p i j d (omega arith) (omega (arith, far))

later : (s : Step (Unit {0})) (ss : List (Step (Unit {0}))) → Follows s ss → AreSteps ss
    → All (λ i. s.to <ℤ i.0) (map ends ss)
later s [] f a = All-nil (λ i. s.to <ℤ i.0)
later s (t ∷ ts) f a =
    let apart : ¬ (s.to ≡ t.from) = λ e. f.1 e refl in
    let first : s.to <ℤ t.from = omega (arith, ints, f.0, apart) in
    let rest : All (λ i. t.to <ℤ i.0) (map ends ts) = later t ts a.1 a.2 in
    All-cons (λ i. s.to <ℤ i.0) (ends t) (map ends ts) first (All-weaker (λ i. t.to <ℤ i.0) (λ i. s.to <ℤ i.0)
    (λ i k. omega (arith, ints, first, a.0, k)) (map ends ts) rest)

intervals : (ss : List (Step (Unit {0}))) → AreSteps ss → AreIntervals (map ends ss)
intervals [] a = record { each = All-nil (λ i. i.0 <ℤ i.1); apart = λ i j d lt far. absurd (omega (arith, far)) }
intervals (s ∷ ss) a =
    let rest : AreIntervals (map ends ss) = intervals ss a.2 in
    record {
      each = All-cons (λ i. i.0 <ℤ i.1) (ends s) (map ends ss) a.0 rest.each;
      apart = all_pairs_cons (λ i j. i.1 <ℤ j.0) (ends s) (map ends ss) (later s ss a.1 a.2) rest.apart;
    }

-- they are in order, none is empty, and none touch
pub row_intervals : (es : List Edge) → Balanced es → AreIntervals (row es)
unfolding row_from
row_intervals es balanced =
    intervals (steps_from (λ u v. true) (far_of es) None (mark es)) (steps_give (λ u v. true) one_value (far_of es) None
    (mark es) (within es balanced)).steps
