-- Lines in increasing order, and the value of the cell between two of them.
use Rattle.std.proofs.Common.{◌≡◌, ℕ, ◌+◌, ◌<◌, Bool, true, false, cond, List, [], ◌∷◌, ◌++◌, map, length, get_or, take}
use Rattle.std.proofs.Common.{ℤ, ◌<ℤ◌, refl, suc, subst, arith, sym, ◌∙◌, ap, ◌⊎◌, inl, inr, int_le}
use Rattle.std.specs.List.{AllZip, AllByRecursion}
use Rattle.std.specs.Ordering.{int_cmp}
use Rattle.std.specs.declared.cmp.Ordering.TheVariants.{Less}
use Rattle.std.specs.List.Sorted.{IsStrictlySortedBy}
use Rattle.std.specs.Cmp.{int_ranked}
use Rattle.std.proofs.lemmas.Int.{ints}
use Rattle.std.proofs.lemmas.List.Sums.{sum_by-cons}
use Rattle.std.proofs.lemmas.Grind.{common_steps}
use Rattle.lvl_region.specs.Grid.{passed, value_at}

pub all_zip_push : {A B : Type 0} (R : A → B → Type 0) (as' : List A) (bs : List B) (a : A) (b : B) → AllZip R as' bs
    → R a b → AllZip R (as' ++ a ∷ []) (bs ++ b ∷ [])
all_zip_push R [] [] a b h k = (k, tt)
all_zip_push R [] (y ∷ ys) a b h k = absurd h
all_zip_push R (x ∷ xs) [] a b h k = absurd h
all_zip_push R (x ∷ xs) (y ∷ ys) a b h k = (h.0, all_zip_push R xs ys a b h.1 k)

-- one more value, for one more line
pub zip_more : {A B : Type 0} (R : A → B → Type 0) (as' : List A) (bs : List B) (i : ℕ) (d : A) (b : B) → i < length as'
    → AllZip R (take i as') bs → R (get_or as' i d) b → AllZip R (take (i + 1) as') (bs ++ b ∷ [])
zip_more R as' bs i d b lt h k =
    let e : take (i + 1) as' ≡ take i as' ++ get_or as' i d ∷ [] = grind (arith, common_steps) in
    rw e (all_zip_push R (take i as') bs (get_or as' i d) b h k)

pub all_zip-map : {A B C : Type 0} (R : A → B → Type 0) (f : C → B) (as' : List A) (cs : List C)
    → AllZip (λ a c. R a (f c)) as' cs → AllZip R as' (map f cs)
all_zip-map R f [] [] h = tt
all_zip-map R f [] (c ∷ cs) h = absurd h
all_zip-map R f (a ∷ as') [] h = absurd h
all_zip-map R f (a ∷ as') (c ∷ cs) h = (h.0, all_zip-map R f as' cs h.1)

abbrev pub bit : Bool → ℕ
bit t = cond t 1 0

pub passed-cons : (a : ℤ) (as' : List ℤ) (v : ℤ) → passed (a ∷ as') v ≡ bit (int_le a v) + passed as' v
passed-cons a as' v = sum_by-cons (λ b. cond (int_le b v) 1 0) a as'

-- a line is at most v exactly if it is at most w
abbrev pub NoLineBetween : List ℤ → ℤ → ℤ → Type 0
NoLineBetween lines v w = AllByRecursion (λ a. int_le a v ≡ int_le a w) lines

all_above : (a : ℤ) (as' : List ℤ) (v : ℤ) → int_le a v ≡ false → AllByRecursion (λ b. int_cmp a b ≡ Less) as'
    → AllByRecursion (λ b. int_le b v ≡ false) as'
all_above a [] v e h = h
all_above a (b ∷ bs) v e h =
    let less : a <ℤ b = int_ranked a b Less (sym h.0) in
    let e' : int_le b v ≡ false = grind (arith, ints) in
    (e', all_above a bs v e h.1)

pub none_passed : (as' : List ℤ) (v : ℤ) → AllByRecursion (λ b. int_le b v ≡ false) as' → passed as' v ≡ 0
none_passed [] v h = refl
none_passed (a ∷ as') v h =
    let zero : bit (int_le a v) ≡ bit false = ap bit h.0 in
    omega (arith, passed-cons a as' v, zero, none_passed as' v h.1)

less_than : (p a : ℤ) → int_cmp p a ≡ Less → p <ℤ a
less_than p a h = int_ranked p a Less (sym h)

far : (p v : ℤ) (as' : List ℤ) → AllByRecursion (λ b. int_le b v ≡ false) as'
    → AllByRecursion (λ b. int_cmp p b ≡ Less) as' → NoLineBetween as' v p
far p v [] h k = tt
far p v (a ∷ as') h k =
    let less : p <ℤ a = less_than p a k.0 in
    let high : int_le a v ≡ false = h.0 in
    (grind (arith, ints), far p v as' h.1 k.1)

-- v is at or after the line p, whose cell is c: the value at v is that at a line w, at or after p, and no line is
-- between w and v
abbrev WalkEnds : {B : Type 0} → (ℤ → B → Type 0) → ℤ → B → List ℤ → List B → ℤ → B → Type 0
WalkEnds R p c as' cs v d =
    (w : ℤ) × (int_le p w ≡ true) × NoLineBetween as' v w × R w (get_or (c ∷ cs) (passed as' v) d)

walk : {B : Type 0} (R : ℤ → B → Type 0) (p : ℤ) (c : B) (as' : List ℤ) (cs : List B) (v : ℤ) (d : B) → R p c
    → int_le p v ≡ true → AllByRecursion (λ b. int_cmp p b ≡ Less) as' → IsStrictlySortedBy int_cmp as'
    → AllZip R as' cs → WalkEnds R p c as' cs v d
unfolding IsStrictlySortedBy
walk R p c [] [] v d r e above rising zip = (p, grind (arith, ints), tt, r)
walk R p c [] (x ∷ xs) v d r e above rising zip = absurd zip
walk R p c (a ∷ as') [] v d r e above rising zip = absurd zip
walk R p c (a ∷ as') (x ∷ xs) v d r e above rising zip =
    let less : p <ℤ a = less_than p a above.0 in
    elim (int_le a v) as (λ t. int_le a v ≡ t → WalkEnds R p c (a ∷ as') (x ∷ xs) v d) [
      | true ↦ λ here.
          let rest : WalkEnds R a x as' xs v d = walk R a x as' xs v d zip.0 here rising.0 rising.1 zip.1 in
          let one : bit (int_le a v) ≡ bit true = ap bit here in
          let e' : passed (a ∷ as') v ≡ suc (passed as' v) = omega (arith, passed-cons a as' v, one) in
          let after : int_le a rest.0 ≡ true = rest.1 in (
            rest.0,
            grind (arith, ints),
            (here ∙ sym rest.1, rest.2),
            subst (λ k. R rest.0 (get_or (c ∷ x ∷ xs) k d))
                (sym e') rest.3,
          )
      | false ↦ λ here.
          let none : passed (a ∷ as') v ≡ 0 = none_passed (a ∷ as') v (here, all_above a as' v here rising.0) in (
            p,
            grind (arith, ints),
            (grind (arith, ints), far p v as' (all_above a as' v here rising.0) above.1),
            subst
                (λ k. R p (get_or (c ∷ x ∷ xs) k d)) (sym none) r,
          )
    ] refl

-- The value at v is that of a line w, with no line between w and v, or v is before all lines and the value is d.
pub value_is : {B : Type 0} (R : ℤ → B → Type 0) (lines : List ℤ) (cs : List B) (v : ℤ) (d : B)
    → IsStrictlySortedBy int_cmp lines → AllZip R lines cs
    → ((w : ℤ) × NoLineBetween lines v w × R w (value_at d lines cs v))
    ⊎ (AllByRecursion (λ a. int_le a v ≡ false) lines × (value_at d lines cs v ≡ d))
unfolding IsStrictlySortedBy
value_is R [] cs v d rising zip = inr (tt, refl)
value_is R (a ∷ as') [] v d rising zip = absurd zip
value_is {B} R (a ∷ as') (x ∷ xs) v d rising zip =
    elim (int_le a v) as (λ t. int_le a v ≡ t → ((w : ℤ) × NoLineBetween (a ∷ as') v w
    × R w (value_at d (a ∷ as') (x ∷ xs) v)) ⊎ (AllByRecursion (λ b. int_le b v ≡ false) (a ∷ as')
    × (value_at d (a ∷ as') (x ∷ xs) v ≡ d))) [
      | true ↦ λ here.
          let rest : WalkEnds R a x as' xs v d = walk R a x as' xs v d zip.0 here rising.0 rising.1 zip.1 in
          let one : bit (int_le a v) ≡ bit true = ap bit here in
          let e' : passed (a ∷ as') v ≡ suc (passed as' v) = omega (arith, passed-cons a as' v, one) in
          inl (rest.0, (here ∙ sym rest.1, rest.2), subst (λ k. R rest.0 (get_or (d ∷ x ∷ xs) k d)) (sym e') rest.3)
      | false ↦ λ here.
          let low : AllByRecursion (λ b. int_le b v ≡ false) (a ∷ as') = (here, all_above a as' v here rising.0) in
          inr (low, ap (λ k. get_or (d ∷ x ∷ xs) k d) (none_passed (a ∷ as') v low))
    ] refl
