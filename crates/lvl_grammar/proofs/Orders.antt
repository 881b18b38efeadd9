-- What may come after a type in an order.
use Rattle.std.proofs.Common.{◌≡◌, ◌==◌, ℕ, ◌⊎◌, inl, inr, Bool, true, false, ◌||◌, if◌then◌else◌, List, [], ◌∷◌, ◌++◌}
use Rattle.std.proofs.Common.{map, refl, sym, ap, ◌∙◌, subst, arith, append_assoc, eq-eqb}
use Rattle.std.proofs.lemmas.Bool.Decides.{nat_tests}
use Rattle.std.proofs.lemmas.Bool.{and_parts, or_right}
use Rattle.std.specs.List.{AllByRecursion, flat_map}
use Rattle.lvl_grammar.specs.Order.{Order, nothing, one, next, either, many, IsWord}
use Rattle.lvl_grammar.specs.inside.After.{seq, can_be_empty, after_first, IsWordOfOne}

pub some_word : Order → List ℕ
some_word nothing = []
some_word (one k) = k ∷ []
some_word (next a b) = some_word a ++ some_word b
some_word (either a b) = some_word a
some_word (many a) = []

pub some_word-is : (a : Order) → IsWord a (some_word a)
unfolding some_word
some_word-is nothing = refl
some_word-is (one k) = refl
some_word-is (next a b) = (some_word a, some_word b, some_word-is a, some_word-is b, refl)
some_word-is (either a b) = inl (some_word-is a)
some_word-is (many a) = ([], tt, refl)

pub seq_back : (a c : Order) (w : List ℕ) → IsWord (seq a c) w → IsWord (next a c) w
seq_back nothing c w h = ([], w, refl, h, refl)
seq_back (one k) c w h = h
seq_back (next a b) c w h =
    let p = seq_back b c h.1 h.3 in
    (h.0 ++ p.0, p.1, (h.0, p.0, h.2, p.2, refl), p.3, h.4 ∙ ap (λ l. h.0 ++ l) p.4 ∙ sym (append_assoc h.0 p.0 p.1))
seq_back (either a b) c w h = h
seq_back (many a) c w h = h

pub seq_word : (a c : Order) (u v : List ℕ) → IsWord a u → IsWord c v → IsWord (seq a c) (u ++ v)
seq_word nothing c u v h k = subst (λ l. IsWord c (l ++ v)) (sym h) k
seq_word (one i) c u v h k = (u, v, h, k, refl)
seq_word (next a b) c u v h k =
    (h.0, h.1 ++ v, h.2, seq_word b c h.1 v h.3 k, ap (λ l. l ++ v) h.4 ∙ append_assoc h.0 h.1 v)
seq_word (either a b) c u v h k = (u, v, h, k, refl)
seq_word (many a) c u v h k = (u, v, h, k, refl)

pub of_one-left : (rs ss : List Order) (w : List ℕ) → IsWordOfOne rs w → IsWordOfOne (rs ++ ss) w
of_one-left [] ss w h = absurd h
of_one-left (r ∷ rs) ss w h = elim h [ inl a ↦ inl a | inr b ↦ inr (of_one-left rs ss w b) ]

pub of_one-right : (rs ss : List Order) (w : List ℕ) → IsWordOfOne ss w → IsWordOfOne (rs ++ ss) w
of_one-right [] ss w h = h
of_one-right (r ∷ rs) ss w h = inr (of_one-right rs ss w h)

pub of_one-append : (rs ss : List Order) (w : List ℕ) → IsWordOfOne (rs ++ ss) w → IsWordOfOne rs w ⊎ IsWordOfOne ss w
of_one-append [] ss w h = inr h
of_one-append (r ∷ rs) ss w h = elim h [
  | inl a ↦ inl (inl a)
  | inr b ↦ elim (of_one-append rs ss w b) [ inl c ↦ inl (inr c) | inr d ↦ inr d ]
]

pub of_one-seq : (rs : List Order) (c : Order) (u v : List ℕ) → IsWordOfOne rs u → IsWord c v
    → IsWordOfOne (map (λ r. seq r c) rs) (u ++ v)
of_one-seq [] c u v h k = absurd h
of_one-seq (r ∷ rs) c u v h k = elim h [ inl a ↦ inl (seq_word r c u v a k) | inr b ↦ inr (of_one-seq rs c u v b k) ]

pub of_one-seq_back : (rs : List Order) (c : Order) (w : List ℕ) → IsWordOfOne (map (λ r. seq r c) rs) w
    → (u v : List ℕ) × IsWordOfOne rs u × IsWord c v × (w ≡ u ++ v)
of_one-seq_back [] c w h = absurd h
of_one-seq_back (r ∷ rs) c w h = elim h [
  | inl a ↦ (let p = seq_back r c w a in (p.0, p.1, inl p.2, p.3, p.4))
  | inr b ↦ (let p = of_one-seq_back rs c w b in (p.0, p.1, inr p.2, p.3, p.4))
]

both_nil : (u v : List ℕ) → [] ≡ u ++ v → (u ≡ []) × (v ≡ [])
both_nil [] v e = (refl, sym e)
both_nil (x ∷ u) v e = cc

pub empty_word : (a : Order) → IsWord a [] → can_be_empty a ≡ true
empty_word nothing h = refl
empty_word (one k) h = cc
empty_word (next a b) h =
    let e = both_nil h.0 h.1 h.4 in
    let p = empty_word a (subst (IsWord a) e.0 h.2) in
    let q = empty_word b (subst (IsWord b) e.1 h.3) in
    rw (p, q) refl
empty_word (either a b) h = elim h [
  | inl x ↦ rw (empty_word a x) refl
  | inr y ↦ or_right (can_be_empty a) (can_be_empty b) (empty_word b y)
]
empty_word (many a) h = refl

or_parts : (a b : Bool) → a || b ≡ true → (a ≡ true) ⊎ (b ≡ true)
or_parts true b e = inl refl
or_parts false b e = inr e

pub empty_back : (a : Order) → can_be_empty a ≡ true → IsWord a []
empty_back nothing h = refl
empty_back (one k) h = cc
empty_back (next a b) h =
    let p = and_parts (can_be_empty a) (can_be_empty b) h in
    ([], [], empty_back a p.0, empty_back b p.1, refl)
empty_back (either a b) h =
    elim (or_parts (can_be_empty a) (can_be_empty b) h) [ inl x ↦ inl (empty_back a x) | inr y ↦ inr (empty_back b y) ]
empty_back (many a) h = ([], tt, refl)

if_true : (b : Bool) (rs : List Order) (w : List ℕ) → b ≡ true → IsWordOfOne rs w → IsWordOfOne (if b then rs else []) w
if_true true rs w e h = h
if_true false rs w e h = cc

if_back : (b : Bool) (rs : List Order) (w : List ℕ) → IsWordOfOne (if b then rs else []) w
    → (b ≡ true) × IsWordOfOne rs w
if_back true rs w h = (refl, h)
if_back false rs w h = absurd h

pub same_type : (k j : ℕ) → k ≡ j → k == j ≡ true
same_type k j e = eq-eqb k j e

pub type_same : (k j : ℕ) → k == j ≡ true → k ≡ j
type_same k j e = grind (arith, nat_tests)

taken_next : (a b : Order) (k : ℕ) (w : List ℕ) → ((x : List ℕ) → IsWord a (k ∷ x) → IsWordOfOne (after_first a k) x)
    → ((x : List ℕ) → IsWord b (k ∷ x) → IsWordOfOne (after_first b k) x)
    → (u v : List ℕ) → IsWord a u → IsWord b v → k ∷ w ≡ u ++ v → IsWordOfOne (after_first (next a b) k) w
taken_next a b k w ha hb [] v p q e =
    of_one-right (map (λ r. seq r b) (after_first a k)) _ w (if_true (can_be_empty a) (after_first b k) w
    (empty_word a p) (hb w (subst (IsWord b) (sym e) q)))
taken_next a b k w ha hb (x ∷ u) v p q e =
    let same : x ≡ k = cc in
    let rest : u ++ v ≡ w = cc in
    let one = of_one-seq (after_first a k) b u v (ha u (subst (λ y. IsWord a (y ∷ u)) same p)) q in
    of_one-left (map (λ r. seq r b) (after_first a k)) _ w (subst (IsWordOfOne (map (λ r. seq r b) (after_first a k)))
    rest one)

taken_many : (a : Order) (k : ℕ) (w : List ℕ) → ((x : List ℕ) → IsWord a (k ∷ x) → IsWordOfOne (after_first a k) x)
    → (ws : List (List ℕ)) → AllByRecursion (IsWord a) ws → k ∷ w ≡ flat_map (λ u. u) ws
    → IsWordOfOne (after_first (many a) k) w
taken_many a k w ha [] p e = cc
taken_many a k w ha ([] ∷ ws) p e = taken_many a k w ha ws p.1 e
taken_many a k w ha ((x ∷ u) ∷ ws) p e =
    let same : x ≡ k = cc in
    let rest : u ++ flat_map (λ u. u) ws ≡ w = cc in
    let one = of_one-seq (after_first a k) (many a) u (flat_map (λ u. u) ws)
    (ha u (subst (λ y. IsWord a (y ∷ u)) same p.0)) (ws, p.1, refl) in
    subst (IsWordOfOne (map (λ r. seq r (many a)) (after_first a k))) rest one

-- if a word begins with k, its rest is a word of what may come after k
pub first_taken : (a : Order) (k : ℕ) (w : List ℕ) → IsWord a (k ∷ w) → IsWordOfOne (after_first a k) w
first_taken nothing k w h = cc
first_taken (one j) k w h =
    let e : k ≡ j = cc in
    let n : w ≡ [] = cc in
    if_true (k == j) (nothing ∷ []) w (same_type k j e) (inl n)
first_taken (next a b) k w h = taken_next a b k w (first_taken a k) (first_taken b k) h.0 h.1 h.2 h.3 h.4
first_taken (either a b) k w h = elim h [
  | inl x ↦ of_one-left (after_first a k) (after_first b k) w (first_taken a k w x)
  | inr y ↦ of_one-right (after_first a k) (after_first b k) w (first_taken b k w y)
]
first_taken (many a) k w h = taken_many a k w (first_taken a k) h.0 h.1 h.2

-- and conversely
pub first_put : (a : Order) (k : ℕ) (w : List ℕ) → IsWordOfOne (after_first a k) w → IsWord a (k ∷ w)
first_put nothing k w h = absurd h
first_put (one j) k w h =
    let p = if_back (k == j) (nothing ∷ []) w h in
    let e = type_same k j p.0 in
    elim p.1 [ inl n ↦ (let n' : w ≡ [] = n in cc) | inr x ↦ absurd x ]
first_put (next a b) k w h = elim (of_one-append (map (λ r. seq r b) (after_first a k)) _ w h) [
  | inl x ↦ (let p = of_one-seq_back (after_first a k) b w x in
      (k ∷ p.0, p.1, first_put a k p.0 p.2, p.3, ap (λ l. k ∷ l) p.4))
  | inr y ↦ (let p = if_back (can_be_empty a) (after_first b k) w y in
      ([], k ∷ w, empty_back a p.0, first_put b k w p.1, refl))
]
first_put (either a b) k w h = elim (of_one-append (after_first a k) (after_first b k) w h) [
  | inl x ↦ inl (first_put a k w x)
  | inr y ↦ inr (first_put b k w y)
]
first_put (many a) k w h =
    let p = of_one-seq_back (after_first a k) (many a) w h in
    ((k ∷ p.0) ∷ p.3.0, (first_put a k p.0 p.2, p.3.1), ap (λ l. k ∷ l) (p.4 ∙ ap (λ l. p.0 ++ l) p.3.2))

pub by_test : (P : ℕ → Type 0) (k j : ℕ) (b : Bool) → k == j ≡ b → P j → (k == j ≡ false → P k) → P k
by_test P k j true e here there = subst P (sym (type_same k j e)) here
by_test P k j false e here there = there e

-- a property of all types follows from that of one type and that of the others
pub at_type : (P : ℕ → Type 0) (k j : ℕ) → P j → (k == j ≡ false → P k) → P k
at_type P k j here there = by_test P k j (k == j) refl here there
