-- A set of squares has only one slab list.
use Rattle.std.proofs.Common.{◌≡◌, ◌≢◌, Bool, true, false, cond, List, [], ◌∷◌, map, suc, ℤ, ◌<ℤ◌, Option, None, Some}
use Rattle.std.proofs.Common.{All, IfNone, refl, sym, ◌∙◌, ap, arith, subst}
use Rattle.std.specs.List.{list_any}
use Rattle.std.proofs.lemmas.Int.{ints}
use Rattle.std.proofs.lemmas.Bool.{both_ways}
use Rattle.std.proofs.lemmas.List.Elements.{All-head, All-tail}
use Rattle.lvl_grid.specs.declared.point.Square.{Square}
use Rattle.lvl_sweep.specs.Slab.{Step, Slab, holds, value_of, Follows, AreSteps, spans, AreIntervals, IsSlabList}
use Rattle.lvl_sweep.specs.Slab.{slabs_cover}
use Rattle.lvl_sweep.specs.inside.Rows.{ends}
use Rattle.lvl_sweep.specs.inside.InStep.{left_end}
use Rattle.lvl_sweep.proofs.Slabs.{same_steps}
use Rattle.lvl_sweep.proofs.RowLists.{token, spans_value}
use Rattle.lvl_sweep.proofs.BandLists.{in_value, cover_is}
use Rattle.lvl_sweep.proofs.Aheads.{left_has}

abbrev step_of : ℤ × ℤ → Step (Unit {0})
step_of i = record { from = i.0; to = i.1; value = tt }

and_back : (is : List (ℤ × ℤ)) → map ends (map step_of is) ≡ is
and_back [] = refl
and_back (i ∷ is) = ap (λ t. i ∷ t) (and_back is)

pub rest_of : (i : ℤ × ℤ) (is : List (ℤ × ℤ)) → AreIntervals (i ∷ is) → AreIntervals is
rest_of i is h =
    record {
      each = All-tail (λ i. i.0 <ℤ i.1) i is h.each;
      apart = λ a b d lt far. h.apart (suc a) (suc b) d (omega (arith, lt)) (omega (arith, far));
    }

follows_of : (i : ℤ × ℤ) (is : List (ℤ × ℤ)) → AreIntervals (i ∷ is) → Follows (step_of i) (map step_of is)
follows_of i [] h = tt
follows_of i (j ∷ js) h =
    let lt : i.1 <ℤ j.0 = h.apart 0 1 i (omega arith) (omega arith) in
    (omega (arith, ints, lt), λ e. absurd (omega (arith, ints, lt, e)))

steps_of : (is : List (ℤ × ℤ)) → AreIntervals is → AreSteps (map step_of is)
steps_of [] h = tt
steps_of (i ∷ is) h = (All-head (λ i. i.0 <ℤ i.1) i is h.each, follows_of i is h, steps_of is (rest_of i is h))

value_at : (is : List (ℤ × ℤ)) (z : ℤ) → value_of (map step_of is) z ≡ token (list_any (spans z) is)
value_at is z = spans_value z (map step_of is) ∙ ap (λ l. token (list_any (spans z) l)) (and_back is)

-- two rows of intervals that have the same abscissas are equal
pub same_intervals : (is js : List (ℤ × ℤ)) → AreIntervals is → AreIntervals js
    → ((z : ℤ) → list_any (spans z) is ≡ list_any (spans z) js) → is ≡ js
same_intervals is js h k same =
    let whole : map step_of is ≡ map step_of js = same_steps (map step_of is) (map step_of js) (steps_of is h)
    (steps_of js k) (λ z. value_at is z ∙ (ap token (same z) ∙ sym (value_at js z))) in
    sym (and_back is) ∙ (ap (map ends) whole ∙ and_back js)

abbrev IsBandRow : List (ℤ × ℤ) → Type 0
IsBandRow r = (r ≢ []) × AreIntervals r

value_by : (t : Bool) (v r : List (ℤ × ℤ)) (o : Option (List (ℤ × ℤ))) → IsBandRow v → (o ≡ Some r → IsBandRow r)
    → cond t (Some v) o ≡ Some r → IsBandRow r
value_by true v r o here rest e = let same : v ≡ r = cc in subst IsBandRow same here
value_by false v r o here rest e = rest e

pub value_has : (us : List Slab) (y : ℤ) (r : List (ℤ × ℤ)) → All (λ (b : Slab). IsBandRow b.value) us
    → value_of us y ≡ Some r → IsBandRow r
value_has [] y r h e = cc
value_has (b ∷ bs) y r h e =
    let here : IsBandRow b.value = All-head (λ (c : Slab). IsBandRow c.value) b bs h in
    let rest : value_of bs y ≡ Some r → IsBandRow r =
    value_has bs y r (All-tail (λ (c : Slab). IsBandRow c.value) b bs h) in
    value_by (holds b y) b.value r (value_of bs y) here rest e

pub same_value : (o p : Option (List (ℤ × ℤ))) → ((r : List (ℤ × ℤ)) → o ≡ Some r → IsBandRow r)
    → ((r : List (ℤ × ℤ)) → p ≡ Some r → IsBandRow r) → ((x : ℤ) → in_value x o ≡ in_value x p) → o ≡ p
same_value None None f g same = refl
same_value None (Some q) f g same =
    let row : IsBandRow q = g q refl in
    absurd (both_ways (list_any (spans (left_end q)) q) (sym (same (left_end q))) (left_has q row.0 row.1))
same_value (Some r) None f g same =
    let row : IsBandRow r = f r refl in
    absurd (both_ways (list_any (spans (left_end r)) r) (same (left_end r)) (left_has r row.0 row.1))
same_value (Some r) (Some q) f g same = ap Some (same_intervals r q (f r refl).1 (g q refl).1 same)

-- two slab lists that cover the same squares are equal
pub same_slabs : (us vs : List Slab) → IsSlabList us → IsSlabList vs
    → ((s : Square) → slabs_cover us s ≡ slabs_cover vs s) → us ≡ vs
same_slabs us vs h k same = same_steps us vs h.steps k.steps (λ y.
    same_value (value_of us y) (value_of vs y) (λ r e. value_has us y r h.rows e) (λ r e. value_has vs y r k.rows e)
    (λ x.
    let s : Square = record { x = x; y = y } in
    sym (cover_is s us h.steps) ∙ (same s ∙ cover_is s vs k.steps)))

pub equal_lists : {A : Type 0} (r : Option A) (us vs : List Slab) → IsSlabList us → IsSlabList vs
    → IfNone r ((s : Square) → slabs_cover us s ≡ slabs_cover vs s) → IfNone r (us ≡ vs)
equal_lists None us vs h k same = same_slabs us vs h k same
equal_lists (Some x) us vs h k same = tt
