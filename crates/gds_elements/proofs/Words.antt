-- The types that are in a word of an order.
use Rattle.std.proofs.Common.{◌≡◌, ◌==◌, ℕ, ◌⊎◌, inl, inr, true, false, List, [], ◌∷◌, ◌++◌, refl, subst}
use Rattle.std.proofs.lemmas.Bool.{or_left, or_right}
use Rattle.std.specs.List.{AllByRecursion, flat_map}
use Rattle.gds_elements.specs.Types.{boundary, path, sref, aref, text, layer, datatype, width, xy, endel, sname, colrow}
use Rattle.gds_elements.specs.Types.{texttype, presentation, string, strans, mag, angle, pathtype}
use Rattle.lvl_grammar.specs.Order.{Order, nothing, one, next, either, many, IsWord, Begins, has}
use Rattle.gds_elements.specs.Order.{an_element}
use Rattle.gds_elements.specs.Rules.{IsKnown}
use Rattle.lvl_grammar.proofs.Orders.{at_type, same_type}

-- the type is in the list
abbrev pub Stands : ℕ → List ℕ → Type 0
Stands k [] = ⊥
Stands k (x ∷ xs) = (k ≡ x) ⊎ Stands k xs

pub stands_append : (k : ℕ) (u v : List ℕ) → Stands k (u ++ v) → Stands k u ⊎ Stands k v
stands_append k [] v h = inr h
stands_append k (x ∷ u) v h = elim h [
  | inl e ↦ inl (inl e)
  | inr t ↦ elim (stands_append k u v t) [ inl a ↦ inl (inr a) | inr b ↦ inr b ]
]

pub stands_left : (k : ℕ) (u v : List ℕ) → Stands k u → Stands k (u ++ v)
stands_left k [] v h = absurd h
stands_left k (x ∷ u) v h = elim h [ inl e ↦ inl e | inr t ↦ inr (stands_left k u v t) ]

pub stands_right : (k : ℕ) (u v : List ℕ) → Stands k v → Stands k (u ++ v)
stands_right k [] v h = h
stands_right k (x ∷ u) v h = inr (stands_right k u v h)

has_many : (a : Order) (k : ℕ) → ((w : List ℕ) → IsWord a w → Stands k w → has a k ≡ true)
    → (ws : List (List ℕ)) → AllByRecursion (IsWord a) ws → Stands k (flat_map (λ u. u) ws) → has a k ≡ true
has_many a k ha [] p s = absurd s
has_many a k ha (w ∷ ws) p s =
    elim (stands_append k w (flat_map (λ u. u) ws) s) [ inl x ↦ ha w p.0 x | inr y ↦ has_many a k ha ws p.1 y ]

-- a word of an order has only types that are in the order
pub has_all : (a : Order) (k : ℕ) (w : List ℕ) → IsWord a w → Stands k w → has a k ≡ true
has_all nothing k w h s = absurd (subst (Stands k) h s)
has_all (one j) k w h s = elim (subst (Stands k) h s) [ inl e ↦ same_type k j e | inr t ↦ absurd t ]
has_all (next a b) k w h s = elim (stands_append k h.0 h.1 (subst (Stands k) h.4 s)) [
  | inl x ↦ or_left (has a k) (has b k) (has_all a k h.0 h.2 x)
  | inr y ↦ or_right (has a k) (has b k) (has_all b k h.1 h.3 y)
]
has_all (either a b) k w h s = elim h [
  | inl x ↦ or_left (has a k) (has b k) (has_all a k w x s)
  | inr y ↦ or_right (has a k) (has b k) (has_all b k w y s)
]
has_all (many a) k w h s = has_many a k (has_all a k) h.0 h.1 (subst (Stands k) h.2 s)

known_if : ℕ → Type 0
known_if k = has an_element k ≡ true → IsKnown k

one_more : (k j : ℕ) → known_if j → (k == j ≡ false → known_if k) → known_if k
one_more k j = at_type known_if k j

-- the types of elements are known
pub element_known : (k : ℕ) → has an_element k ≡ true → IsKnown k
unfolding known_if
element_known k =
    one_more k boundary (λ _. refl)
    (λ e0. one_more k path (λ _. refl) (λ e1. one_more k sref (λ _. refl) (λ e2. one_more k aref (λ _. refl) (λ e3.
    one_more k text (λ _. refl) (λ e4. one_more k layer (λ _. refl)
    (λ e5. one_more k datatype (λ _. refl) (λ e6. one_more k width (λ _. refl) (λ e7.
    one_more k xy (λ _. refl) (λ e8. one_more k endel (λ _. refl)
    (λ e9. one_more k sname (λ _. refl) (λ e10. one_more k colrow (λ _. refl) (λ e11.
    one_more k texttype (λ _. refl)
    (λ e12. one_more k presentation (λ _. refl)
    (λ e13. one_more k string (λ _. refl) (λ e14. one_more k strans (λ _. refl) (λ e15.
    one_more k mag (λ _. refl) (λ e16. one_more k angle (λ _. refl) (λ e17. one_more k pathtype (λ _. refl) (λ e18. λ h.
    (let z : false ≡ true = rw (e0, e1, e2, e3, e4, e5, e6, e7, e8, e9, e10, e11, e12, e13, e14, e15, e16, e17, e18)
    at h in cc))))))))))))))))))))

-- a record that goes on from the beginning of an element is of a known type
pub begun_known : (w : List ℕ) (k : ℕ) → Begins an_element (w ++ k ∷ []) → IsKnown k
begun_known w k (v, x) =
    element_known k (has_all an_element k ((w ++ k ∷ []) ++ v) x
    (stands_left k (w ++ k ∷ []) v (stands_right k w (k ∷ []) (inl refl))))
