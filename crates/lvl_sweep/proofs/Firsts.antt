-- The first abscissa at which two rows differ.
use Rattle.std.proofs.Common.{◌||◌, ◌≡◌, ◌≢◌, ℕ, ◌+◌, ◌<◌, ◌≤◌, Bool, true, false, ◌&&◌, List, ◌∷◌, ◌++◌, length}
use Rattle.std.proofs.Common.{get_or}
use Rattle.std.proofs.Common.{take, drop, suc, ℤ, ◌<ℤ◌, ◌≤ℤ◌, int_lt, All, refl, sym, ◌∙◌, ap, arith, subst, not}
use Rattle.std.specs.List.{list_any}
use Rattle.std.proofs.lemmas.Int.{ints, by_lt_z}
use Rattle.std.specs.Ordering.{int_eq}
use Rattle.std.proofs.lemmas.Bool.{and_from, both_ways}
use Rattle.std.proofs.lemmas.Bool.Decides.{Decides-int_eq}
use Rattle.std.proofs.lemmas.List.{length-append, get_or_append_left, get_or-append-add, take_all}
use Rattle.std.proofs.Math.Seq.{get_or-append_seam}
use Rattle.std.proofs.Common.{drop-cons, add-one, take-append-drop}
use Rattle.std.proofs.lemmas.List.Elements.{All-weaker}
use Rattle.std.proofs.lemmas.List.Folds.{list_any_none, list_any-append}
use Rattle.lvl_region.specs.declared.region.Side.{Side}
use Rattle.lvl_region.specs.declared.region.Side.TheVariants.{First, Second}
use Rattle.lvl_sweep.specs.Slab.{spans, AreIntervals}
use Rattle.lvl_sweep.proofs.BandLists.{pair_is}
use Rattle.lvl_sweep.specs.Ahead.{IsOn}
use Rattle.lvl_sweep.specs.inside.InStep.{IsLeastIn, end_difference}

pub left_of : (z : ℤ) (i : ℤ × ℤ) → z <ℤ i.0 → spans z i ≡ false
left_of z i h = grind (arith, ints)

pub right_of : (z : ℤ) (i : ℤ × ℤ) → i.1 ≤ℤ z → spans z i ≡ false
right_of z i h = grind (arith, ints)

pub inside_of : (z : ℤ) (i : ℤ × ℤ) → i.0 ≤ℤ z → z <ℤ i.1 → spans z i ≡ true
inside_of z i h k = grind (arith, ints)

-- a row, split into the intervals before one, that one, and those after it
pub record Stands (fr : List (ℤ × ℤ)) (a : ℤ × ℤ) (rest : List (ℤ × ℤ)) : Type 0 where
  pub full : a.0 <ℤ a.1
  pub before : All (λ i. i.1 <ℤ a.0) fr
  pub later : All (λ i. a.1 <ℤ i.0) rest

pub stands : (fr : List (ℤ × ℤ)) (a : ℤ × ℤ) (rest : List (ℤ × ℤ)) → AreIntervals (fr ++ a ∷ rest) → Stands fr a rest
stands fr a rest h =
    let long : length (fr ++ a ∷ rest) ≡ length fr + (length rest + 1) = length-append fr (a ∷ rest) ∙ omega arith in
    record {
      full = rw (get_or-append_seam fr a rest a) at (h.each (length fr) a (omega (arith, long)));
      before = λ k d lt. rw (get_or-append_seam fr a rest d, get_or_append_left fr (a ∷ rest) d k lt)
          at (h.apart k (length fr) d lt (omega (arith, long)));
      later = λ k d lt. rw (get_or-append_seam fr a rest d, get_or-append-add fr (a ∷ rest) (suc k) d)
          at (h.apart (length fr) (length fr + suc k) d (omega arith) (omega (arith, long, lt)));
    }

row_at_split : (z : ℤ) (fr : List (ℤ × ℤ)) (a : ℤ × ℤ) (rest : List (ℤ × ℤ)) (p q r : Bool) → list_any (spans z) fr ≡ p
    → spans z a ≡ q → list_any (spans z) rest ≡ r → list_any (spans z) (fr ++ a ∷ rest) ≡ (p || (q || r))
row_at_split z fr a rest p q r e f g = list_any-append (spans z) fr (a ∷ rest) ∙ rw (e, f, g) refl

none_after : (z : ℤ) (a : ℤ × ℤ) (rest : List (ℤ × ℤ)) → All (λ i. a.1 <ℤ i.0) rest → z ≤ℤ a.1
    → list_any (spans z) rest ≡ false
none_after z a rest h le =
    list_any_none (spans z) rest (All-weaker (λ i. a.1 <ℤ i.0) (λ i. spans z i ≡ false)
    (λ i k. left_of z i (omega (arith, ints, k, le))) rest h)

none_before : (z : ℤ) (a : ℤ × ℤ) (fr : List (ℤ × ℤ)) → All (λ i. i.1 <ℤ a.0) fr → a.0 ≤ℤ z
    → list_any (spans z) fr ≡ false
none_before z a fr h le =
    list_any_none (spans z) fr (All-weaker (λ i. i.1 <ℤ a.0) (λ i. spans z i ≡ false)
    (λ i k. right_of z i (omega (arith, ints, k, le))) fr h)

or_true : (p : Bool) → (p || true) ≡ true
or_true true = refl
or_true false = refl

pub or_false : (p : Bool) → (p || false) ≡ p
or_false true = refl
or_false false = refl

-- left of the interval only the intervals before it count
pub early : (z : ℤ) (fr : List (ℤ × ℤ)) (a : ℤ × ℤ) (rest : List (ℤ × ℤ)) → Stands fr a rest → z <ℤ a.0
    → list_any (spans z) (fr ++ a ∷ rest) ≡ list_any (spans z) fr
early z fr a rest s lt =
    row_at_split z fr a rest (list_any (spans z) fr) false false refl (left_of z a lt)
    (none_after z a rest s.later (omega (arith, ints, lt, s.full))) ∙ or_false (list_any (spans z) fr)

pub here : (z : ℤ) (fr : List (ℤ × ℤ)) (a : ℤ × ℤ) (rest : List (ℤ × ℤ)) → Stands fr a rest → a.0 ≤ℤ z → z <ℤ a.1
    → list_any (spans z) (fr ++ a ∷ rest) ≡ true
here z fr a rest s le lt =
    row_at_split z fr a rest (list_any (spans z) fr) true (list_any (spans z) rest) refl (inside_of z a le lt) refl
    ∙ or_true (list_any (spans z) fr)

pub at_end : (fr : List (ℤ × ℤ)) (a : ℤ × ℤ) (rest : List (ℤ × ℤ)) → Stands fr a rest
    → list_any (spans a.1) (fr ++ a ∷ rest) ≡ false
at_end fr a rest s =
    row_at_split a.1 fr a rest false false false (none_before a.1 a fr s.before (omega (arith, ints, s.full)))
    (right_of a.1 a (omega (arith, ints))) (none_after a.1 a rest s.later (omega (arith, ints)))

abbrev pub other_side : Side → Side
other_side First = Second
other_side Second = First

pub flip_on : (p q : Bool) (side : Side) → IsOn p q side → IsOn q p (other_side side)
flip_on p q First h = (h.1, h.0)
flip_on p q Second h = (h.1, h.0)

pub flip : (is js : List (ℤ × ℤ)) (x : ℤ) (side : Side) → IsLeastIn is js x side → IsLeastIn js is x (other_side side)
flip is js x side h =
    record {
      on = flip_on (list_any (spans x) is) (list_any (spans x) js) side h.on;
      least = λ z lt. sym (h.least z lt);
    }

-- one interval begins before the other
starts_first : (fr : List (ℤ × ℤ)) (a b : ℤ × ℤ) (is js : List (ℤ × ℤ)) → Stands fr a is → Stands fr b js → a.0 <ℤ b.0
    → IsLeastIn (fr ++ a ∷ is) (fr ++ b ∷ js) a.0 First
starts_first fr a b is js s t lt = record {
  on = (
    here a.0 fr a is s (omega (arith, ints)) s.full,
    early a.0 fr b js t lt ∙ none_before a.0 a fr s.before (omega (arith, ints)),
  );
  least = λ z k. early z fr a is s k ∙ sym (early z fr b js t (omega (arith, ints, k, lt)));
}

-- both begin at the same abscissa, and one ends before the other
ends_first : (fr : List (ℤ × ℤ)) (a b : ℤ × ℤ) (is js : List (ℤ × ℤ)) → Stands fr a is → Stands fr b js → a.0 ≡ b.0
    → a.1 <ℤ b.1 → IsLeastIn (fr ++ a ∷ is) (fr ++ b ∷ js) a.1 Second
ends_first fr a b is js s t e lt = record {
  on = (at_end fr a is s, here a.1 fr b js t (omega (arith, ints, s.full, e)) lt);
  least = λ z k. by_lt_z z a.0
      (λ l. early z fr a is s l ∙ sym (early z fr b js t (omega (arith, ints, l, e))))
      (λ g. here z fr a is s g k ∙ sym (here z fr b js t (omega (arith, ints, g, e)) (omega (arith, ints, k, lt))));
}

-- one row has one more interval
pub one_more : (fr : List (ℤ × ℤ)) (a : ℤ × ℤ) (is : List (ℤ × ℤ)) → Stands fr a is
    → IsLeastIn (fr ++ a ∷ is) fr a.0 First
one_more fr a is s = record {
  on = (here a.0 fr a is s (omega (arith, ints)) s.full, none_before a.0 a fr s.before (omega (arith, ints)));
  least = λ z k. early z fr a is s k;
}

not_both : (a b : ℤ × ℤ) → a ≢ b → a.0 ≡ b.0 → a.1 ≡ b.1 → ⊥
not_both a b h e f = h (pair_is a b e f)

-- if two rows first differ in one interval, the least abscissa that only one has is an end of that interval
pub differ_at : (fr : List (ℤ × ℤ)) (a b : ℤ × ℤ) (is js : List (ℤ × ℤ)) → Stands fr a is → Stands fr b js → a ≢ b
    → IsLeastIn (fr ++ a ∷ is) (fr ++ b ∷ js) (end_difference a b).0 (end_difference a b).1
differ_at fr a b is js s t h = by_lt_z a.0 b.0
    (λ lt. let p : int_lt a.0 b.0 ≡ true = grind (arith, ints) in rw p (starts_first fr a b is js s t lt))
    (λ ge.
    let p : int_lt a.0 b.0 ≡ false = grind (arith, ints) in
    rw p (by_lt_z b.0 a.0
    (λ lt. let q : int_lt b.0 a.0 ≡ true = grind (arith, ints) in
    rw q (flip (fr ++ b ∷ js) (fr ++ a ∷ is) b.0 First (starts_first fr b a js is t s lt)))
    (λ ge'.
    let q : int_lt b.0 a.0 ≡ false = grind (arith, ints) in
    let e : a.0 ≡ b.0 = omega (arith, ints, ge, ge') in
    rw q (by_lt_z a.1 b.1
    (λ lt. let r : int_lt a.1 b.1 ≡ true = grind (arith, ints) in rw r (ends_first fr a b is js s t e lt))
    (λ far.
    let r : int_lt a.1 b.1 ≡ false = grind (arith, ints) in
    let lt : b.1 <ℤ a.1 = by_lt_z b.1 a.1 (λ k. k) (λ k. absurd (not_both a b h e (omega (arith, ints, far, k)))) in
    rw r (flip (fr ++ b ∷ js) (fr ++ a ∷ is) b.1 Second (ends_first fr b a js is t s (sym e) lt)))))))

pub split : (is : List (ℤ × ℤ)) (k : ℕ) (d : ℤ × ℤ) → k < length is → is ≡ take k is ++ get_or is k d ∷ drop (k + 1) is
split is k d lt = sym (take-append-drop k is) ∙ ap (λ t. take k is ++ t) (rw (add-one, drop-cons is k d) refl)

at_split : (is js : List (ℤ × ℤ)) (k : ℕ) (d : ℤ × ℤ) → take k is ≡ take k js → k < length js
    → js ≡ take k is ++ get_or js k d ∷ drop (k + 1) js
at_split is js k d same lt = split js k d lt ∙ ap (λ t. t ++ get_or js k d ∷ drop (k + 1) js) (sym same)

-- two rows that are the same up to the kth interval, and differ in it
pub row_differs : (is js : List (ℤ × ℤ)) (k : ℕ) (d e : ℤ × ℤ) → AreIntervals is → AreIntervals js → k < length is
    → k < length js → take k is ≡ take k js → get_or is k d ≢ get_or js k e
    → IsLeastIn is js (end_difference (get_or is k d) (get_or js k e)).0
    (end_difference (get_or is k d) (get_or js k e)).1
row_differs is js k d e h g lt lt' same differ =
    let a : ℤ × ℤ = get_or is k d in
    let b : ℤ × ℤ = get_or js k e in
    let left : is ≡ take k is ++ a ∷ drop (k + 1) is = split is k d lt in
    let right : js ≡ take k is ++ b ∷ drop (k + 1) js = at_split is js k e same lt' in
    let s : Stands (take k is) a (drop (k + 1) is) = stands (take k is) a (drop (k + 1) is) (subst AreIntervals left h)
    in
    let t : Stands (take k is) b (drop (k + 1) js) = stands (take k is) b (drop (k + 1) js) (subst AreIntervals right g)
    in
    let reported
    : IsLeastIn (take k is ++ a ∷ drop (k + 1) is) (take k is ++ b ∷ drop (k + 1) js) (end_difference a b).0
    (end_difference a b).1 = differ_at (take k is) a b (drop (k + 1) is) (drop (k + 1) js) s t differ in
    subst (λ (l : List (ℤ × ℤ)). IsLeastIn l js (end_difference a b).0 (end_difference a b).1) (sym left)
    (subst (λ (l : List (ℤ × ℤ)). IsLeastIn (take k is ++ a ∷ drop (k + 1) is) l (end_difference a b).0
    (end_difference a b).1) (sym right) reported)

-- the second row ends, and the first has one more interval
pub row_longer : (is js : List (ℤ × ℤ)) (k : ℕ) (d : ℤ × ℤ) → AreIntervals is → k < length is → length js ≤ k
    → take k is ≡ take k js → IsLeastIn is js (get_or is k d).0 First
row_longer is js k d h lt far same =
    let a : ℤ × ℤ = get_or is k d in
    let left : is ≡ take k is ++ a ∷ drop (k + 1) is = split is k d lt in
    let right : js ≡ take k is = sym (take_all k js far) ∙ sym same in
    let s : Stands (take k is) a (drop (k + 1) is) = stands (take k is) a (drop (k + 1) is) (subst AreIntervals left h)
    in
    let reported : IsLeastIn (take k is ++ a ∷ drop (k + 1) is) (take k is) a.0 First =
    one_more (take k is) a (drop (k + 1) is) s in
    subst (λ (l : List (ℤ × ℤ)). IsLeastIn l js a.0 First) (sym left)
    (subst (λ (l : List (ℤ × ℤ)). IsLeastIn (take k is ++ a ∷ drop (k + 1) is) l a.0 First) (sym right) reported)

pub row_shorter : (is js : List (ℤ × ℤ)) (k : ℕ) (d : ℤ × ℤ) → AreIntervals js → k < length js → length is ≤ k
    → take k is ≡ take k js → IsLeastIn is js (get_or js k d).0 Second
row_shorter is js k d h lt far same = flip js is (get_or js k d).0 First (row_longer js is k d h lt far (sym same))

pub other_pair : (a b : ℤ × ℤ) (r : Bool) → r ≡ not (int_eq a.0 b.0 && int_eq a.1 b.1) → r ≡ true → a ≢ b
other_pair a b r is on same =
    let both : (int_eq a.0 b.0 && int_eq a.1 b.1) ≡ true = and_from (int_eq a.0 b.0) (int_eq a.1 b.1)
    ((Decides-int_eq a.0 b.0).1 (ap (λ (i : ℤ × ℤ). i.0) same))
    ((Decides-int_eq a.1 b.1).1 (ap (λ (i : ℤ × ℤ). i.1) same)) in
    let off : r ≡ false = is ∙ ap not both in
    both_ways r off on
