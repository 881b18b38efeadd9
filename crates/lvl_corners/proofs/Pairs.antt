-- Lists in which an order holds between each element and each later one.
use Rattle.std.proofs.Common.{◌≡◌, ℕ, zero, suc, ◌<◌, List, [], ◌∷◌, ◌++◌, length, get_or, Contains, ◌⊎◌, inl, inr}
use Rattle.std.proofs.Common.{refl, sym, subst, arith}
use Rattle.std.specs.List.{AllPairs}
use Rattle.std.proofs.lemmas.List.Elements.{Contains-get_or, Contains-append_cases}

pub later_pairs : {A : Type 0} (R : A → A → Type 0) (k : A) (ks : List A) → AllPairs R (k ∷ ks) → AllPairs R ks
later_pairs R k ks h = λ i j d lt far. h (suc i) (suc j) d (omega (arith, lt)) (omega (arith, far))

pub first_pairs : {A : Type 0} (R : A → A → Type 0) (k : A) (ks : List A) (m : A) → AllPairs R (k ∷ ks)
    → Contains ks m → R k m
first_pairs R k ks m h (i, lt, at) = subst (R k) at (h 0 (suc i) m (omega arith) (omega (arith, lt)))

cons_by_index : {A : Type 0} (R : A → A → Type 0) (k : A) (ms : List A)
    → ((j : ℕ) (d : A) → j < length ms → R k (get_or ms j d)) → AllPairs R ms → AllPairs R (k ∷ ms)
cons_by_index R k ms first rest zero zero d lt far = absurd (omega (arith, lt))
cons_by_index R k ms first rest zero (suc j) d lt far = first j d (omega (arith, far))
cons_by_index R k ms first rest (suc i) zero d lt far = absurd (omega (arith, lt))
cons_by_index R k ms first rest (suc i) (suc j) d lt far = rest i j d (omega (arith, lt)) (omega (arith, far))

pub cons_pairs : {A : Type 0} (R : A → A → Type 0) (k : A) (ms : List A) → ((m : A) → Contains ms m → R k m)
    → AllPairs R ms → AllPairs R (k ∷ ms)
cons_pairs R k ms first rest =
    cons_by_index R k ms (λ j d lt. first (get_or ms j d) (Contains-get_or ms j d lt)) rest

pub in_later : {A : Type 0} (k : A) (ks : List A) (m : A) → Contains ks m → Contains (k ∷ ks) m
in_later k ks m (i, lt, at) = (suc i, omega (arith, lt), at)

pub in_first : {A : Type 0} (k : A) (ks : List A) → Contains (k ∷ ks) k
in_first k ks = (0, omega arith, refl)

-- an order that holds within two lists, and between them, holds within both together
pub pairs_of_both : {A : Type 0} (R : A → A → Type 0) (ks ls : List A) → AllPairs R ks → AllPairs R ls
    → ((k l : A) → Contains ks k → Contains ls l → R k l) → AllPairs R (ks ++ ls)
pairs_of_both R [] ls h g between = g
pairs_of_both R (k ∷ ks) ls h g between =
    let rest = pairs_of_both R ks ls (later_pairs R k ks h) g
    (λ m l there other. between m l (in_later k ks m there) other) in
    cons_pairs R k (ks ++ ls) (λ m there. elim (Contains-append_cases ks ls m there) [
      | inl here ↦ first_pairs R k ks m h here
      | inr other ↦ between k m (in_first k ks) other
    ]) rest

-- an element of the list is the first, or a later one
pub first_or_later : {A : Type 0} (l : A) (ls : List A) (k : A) → Contains (l ∷ ls) k → (l ≡ k) ⊎ Contains ls k
first_or_later l ls k (zero, lt, at) = inl at
first_or_later l ls k (suc i, lt, at) = inr (i, omega (arith, lt), at)

first_is : {A : Type 0} (R : A → A → Type 0) → ((k l : A) → R k l → R l k → ⊥) → (k l : A) (ks ls : List A)
    → AllPairs R (k ∷ ks) → AllPairs R (l ∷ ls) → Contains (l ∷ ls) k → Contains (k ∷ ks) l → k ≡ l
first_is R not_both k l ks ls up up' there back = elim (first_or_later l ls k there) [
  | inl same ↦ sym same
  | inr later ↦ elim (first_or_later k ks l back) [
    | inl same ↦ same
    | inr later' ↦ absurd (not_both k l (first_pairs R k ks l up later') (first_pairs R l ls k up' later))
  ]
]

in_rest : {A : Type 0} (R : A → A → Type 0) → ((k l : A) → R k l → R l k → ⊥) → (k : A) (ks ls : List A) (m : A)
    → AllPairs R (k ∷ ks) → Contains ks m → Contains (k ∷ ls) m → Contains ls m
in_rest R not_both k ks ls m up there all = elim (first_or_later k ls m all) [
  | inl same ↦
      let before = subst (λ l. R l m) same (first_pairs R k ks m up there) in
      absurd (not_both m m before before)
  | inr later ↦ later
]

-- lists in a strict order with the same elements are equal
pub one_order : {A : Type 0} (R : A → A → Type 0) → ((k l : A) → R k l → R l k → ⊥) → (ks ls : List A)
    → AllPairs R ks → AllPairs R ls → ((m : A) → Contains ks m → Contains ls m)
    → ((m : A) → Contains ls m → Contains ks m) → ks ≡ ls
one_order R not_both [] [] up up' to back = refl
one_order R not_both [] (l ∷ ls) up up' to back =
    let none = (back l (in_first l ls)).1 in absurd (omega (arith, none))
one_order R not_both (k ∷ ks) [] up up' to back =
    let none = (to k (in_first k ks)).1 in absurd (omega (arith, none))
one_order {A} R not_both (k ∷ ks) (l ∷ ls) up up' to back =
    let first : k ≡ l = first_is R not_both k l ks ls up up' (to k (in_first k ks)) (back l (in_first l ls)) in
    let rest : ks ≡ ls = one_order R not_both ks ls (later_pairs R k ks up) (later_pairs R l ls up')
    (λ m there. in_rest R not_both k ks ls m up there (subst (λ (f : A). Contains (f ∷ ls) m) (sym first)
    (to m (in_later k ks m there))))
    (λ m there. in_rest R not_both l ls ks m up' there (subst (λ (f : A). Contains (f ∷ ks) m) first
    (back m (in_later l ls m there)))) in
    rw (first, rest) refl
