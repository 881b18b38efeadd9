-- What may still come in an order after one more record.
use Rattle.std.proofs.Common.{◌≡◌, ℕ, inl, inr, true, false, List, [], ◌∷◌, ◌++◌, sym, ◌∙◌, subst, append_assoc}
use Rattle.std.proofs.lemmas.List.{append-nil}
use Rattle.lvl_grammar.specs.Order.{Order, IsWord, Begins}
use Rattle.lvl_grammar.specs.inside.After.{after_first, can_be_empty, IsWordOfOne, LeadsTo}
use Rattle.lvl_grammar.proofs.Orders.{first_taken, first_put, some_word, some_word-is, empty_word}

only_one : (a : Order) (v : List ℕ) → IsWordOfOne (a ∷ []) v → IsWord a v
only_one a v h = elim h [ inl x ↦ x | inr y ↦ absurd y ]

-- at the beginning the whole order is left
pub leads_begin : (whole : Order) → LeadsTo whole [] whole
leads_begin whole v = (λ h. h, λ h. h)

-- a type that may come leads to what may come after it
pub leads_on : (whole : Order) (w : List ℕ) (a b : Order) (k : ℕ) → LeadsTo whole w a → after_first a k ≡ b ∷ []
    → LeadsTo whole (w ++ k ∷ []) b
leads_on whole w a b k h t v =
    let g : (w ++ k ∷ []) ++ v ≡ w ++ (k ∷ v) = append_assoc w (k ∷ []) v in (
      λ x. only_one b v (subst (λ rs. IsWordOfOne rs v) t
          (first_taken a k v ((h (k ∷ v)).0 (subst (IsWord whole) g x)))),
      λ y. subst (IsWord whole) (sym g)
          ((h (k ∷ v)).1 (first_put a k v (subst (λ rs. IsWordOfOne rs v) (sym t) (inl y)))),
    )

-- a type that may not come next begins no word
pub leads_nowhere : (whole : Order) (w : List ℕ) (a : Order) (k : ℕ) → LeadsTo whole w a → after_first a k ≡ []
    → Begins whole (w ++ k ∷ []) → ⊥
leads_nowhere whole w a k h t (v, x) =
    let g : (w ++ k ∷ []) ++ v ≡ w ++ (k ∷ v) = append_assoc w (k ∷ []) v in
    subst (λ rs. IsWordOfOne rs v) t (first_taken a k v ((h (k ∷ v)).0 (subst (IsWord whole) g x)))

-- the types before what is left begin a word
pub leads_begins : (whole : Order) (w : List ℕ) (a : Order) → LeadsTo whole w a → Begins whole w
leads_begins whole w a h = (some_word a, (h (some_word a)).1 (some_word-is a))

-- if something has to come, the word isn't whole
pub leads_unwhole : (whole : Order) (w : List ℕ) (a : Order) → can_be_empty a ≡ false → LeadsTo whole w a
    → IsWord whole w → ⊥
leads_unwhole whole w a n h x =
    let y : IsWord a [] = (h []).0 (subst (IsWord whole) (sym (append-nil w)) x) in
    (let z : false ≡ true = sym n ∙ empty_word a y in cc)

-- if nothing has to come, it is
pub leads_whole : (whole : Order) (w : List ℕ) (a : Order) → LeadsTo whole w a → IsWord a [] → IsWord whole w
leads_whole whole w a h x = subst (IsWord whole) (append-nil w) ((h []).1 x)
