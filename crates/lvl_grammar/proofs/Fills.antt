-- Orders that end in one type, and then in any number of another, as of zero bytes after the end of a file.
use Rattle.std.proofs.Common.{◌≡◌, ◌≢◌, ◌==◌, ℕ, true, false, List, [], ◌∷◌, ◌++◌, refl, sym, ap, ◌∙◌, subst}
use Rattle.std.proofs.Common.{append_assoc, inl, inr}
use Rattle.std.proofs.lemmas.List.{append-nil}
use Rattle.std.proofs.lemmas.Bool.{or_parts}
use Rattle.std.specs.List.{AllByRecursion, flat_map}
use Rattle.lvl_grammar.specs.Order.{Order, nothing, one, next, either, many, IsWord, Begins, has}
use Rattle.lvl_grammar.specs.inside.After.{seq}
use Rattle.lvl_grammar.proofs.Orders.{seq_back, seq_word, same_type}

-- the type isn't in the list
abbrev pub Lacks : ℕ → List ℕ → Type 0
Lacks k w = AllByRecursion (λ x. x ≢ k) w

-- the list has no other type
abbrev pub Repeats : ℕ → List ℕ → Type 0
Repeats k w = AllByRecursion (λ x. x ≡ k) w

pub all_append : (P : ℕ → Type 0) (u v : List ℕ) → AllByRecursion P u → AllByRecursion P v → AllByRecursion P (u ++ v)
all_append P [] v p q = q
all_append P (x ∷ u) v p q = (p.0, all_append P u v p.1 q)

pub all_left : (P : ℕ → Type 0) (u v : List ℕ) → AllByRecursion P (u ++ v) → AllByRecursion P u
all_left P [] v p = tt
all_left P (x ∷ u) v p = (p.0, all_left P u v p.1)

pub all_right : (P : ℕ → Type 0) (u v : List ℕ) → AllByRecursion P (u ++ v) → AllByRecursion P v
all_right P [] v p = p
all_right P (x ∷ u) v p = all_right P u v p.1

all_flat : (P : ℕ → Type 0) (Q : List ℕ → Type 0) → ((u : List ℕ) → Q u → AllByRecursion P u) → (ws : List (List ℕ))
    → AllByRecursion Q ws → AllByRecursion P (flat_map (λ u. u) ws)
all_flat P Q h [] p = tt
all_flat P Q h (w ∷ ws) p = all_append P w (flat_map (λ u. u) ws) (h w p.0) (all_flat P Q h ws p.1)

other_type : (k j : ℕ) → k == j ≡ false → j ≢ k
other_type k j n e = (let t : true ≡ false = sym (same_type k j (sym e)) ∙ n in cc)

-- a type that isn't in an expression is in none of its words
pub word_lacks : (a : Order) (k : ℕ) (w : List ℕ) → has a k ≡ false → IsWord a w → Lacks k w
word_lacks nothing k w n h = subst (Lacks k) (sym h) tt
word_lacks (one j) k w n h = subst (Lacks k) (sym h) (other_type k j n, tt)
word_lacks (next a b) k w n h =
    let p = or_parts (has a k) (has b k) n in
    subst (Lacks k) (sym h.4) (all_append (λ x. x ≢ k) h.0 h.1 (word_lacks a k h.0 p.0 h.2)
    (word_lacks b k h.1 p.1 h.3))
word_lacks (either a b) k w n h =
    let p = or_parts (has a k) (has b k) n in
    elim h [ inl x ↦ word_lacks a k w p.0 x | inr y ↦ word_lacks b k w p.1 y ]
word_lacks (many a) k w n h =
    subst (Lacks k) (sym h.2) (all_flat (λ x. x ≢ k) (IsWord a) (λ u. word_lacks a k u n) h.0 h.1)

repeats_one : (f : ℕ) (u : List ℕ) → IsWord (one f) u → Repeats f u
repeats_one f u h = subst (Repeats f) (sym h) (refl, tt)

word_repeats : (f : ℕ) (w : List ℕ) → IsWord (many (one f)) w → Repeats f w
word_repeats f w h = subst (Repeats f) (sym h.2) (all_flat (λ x. x ≡ f) (IsWord (one f)) (repeats_one f) h.0 h.1)

repeats_word : (f : ℕ) (w : List ℕ) → Repeats f w → IsWord (many (one f)) w
repeats_word f [] p = ([], tt, refl)
repeats_word f (x ∷ w) p =
    let q = repeats_word f w p.1 in
    ((x ∷ []) ∷ q.0, (ap (λ i. i ∷ []) p.0, q.1), ap (λ l. x ∷ l) q.2)

-- a, then e once, and then f any number of times
abbrev pub ends : Order → ℕ → ℕ → Order
ends a e f = seq a (next (one e) (many (one f)))

-- the parts of a word of such an order
abbrev Parts : Order → ℕ → ℕ → List ℕ → Type 0
Parts a e f w = (u v : List ℕ) × IsWord a u × Repeats f v × (w ≡ u ++ (e ∷ v))

parts_of : (a : Order) (e f : ℕ) (w : List ℕ) → IsWord (ends a e f) w → Parts a e f w
parts_of a e f w h =
    let p = seq_back a (next (one e) (many (one f))) w h in
    let q = p.3 in
    (p.0, q.1, p.2, word_repeats f q.1 q.3, p.4 ∙ ap (λ l. p.0 ++ l) (q.4 ∙ ap (λ l. l ++ q.1) q.2))

put_parts : (a : Order) (e f : ℕ) (u v : List ℕ) → IsWord a u → Repeats f v → IsWord (ends a e f) (u ++ (e ∷ v))
put_parts a e f u v p q =
    seq_word a (next (one e) (many (one f))) u (e ∷ v) p (e ∷ [], v, refl, repeats_word f v q, refl)

-- the first e of a list is at one index
first_once : (e : ℕ) (x x' y y' : List ℕ) → Lacks e x → Lacks e x' → x ++ (e ∷ y) ≡ x' ++ (e ∷ y') → y ≡ y'
first_once e [] [] y y' p q h = cc
first_once e [] (i ∷ x') y y' p q h = absurd (q.0 (let g : i ≡ e = cc in g))
first_once e (i ∷ x) [] y y' p q h = absurd (p.0 (let g : i ≡ e = cc in g))
first_once e (i ∷ x) (j ∷ x') y y' p q h =
    (let g : x ++ (e ∷ y) ≡ x' ++ (e ∷ y') = cc in first_once e x x' y y' p.1 q.1 g)

-- if an f comes after w in a list with one e, that e is in w, and what follows it in w is part of what follows it in
-- all
later : (e f : ℕ) (w more u v : List ℕ) → f ≢ e → Lacks f u → w ++ (f ∷ more) ≡ u ++ (e ∷ v)
    → (z : List ℕ) × (w ≡ u ++ (e ∷ z)) × (v ≡ z ++ (f ∷ more))
later e f [] more [] v n p h = absurd (n (let g : f ≡ e = cc in g))
later e f (i ∷ w) more [] v n p h =
    let g : i ≡ e = cc in
    let t : w ++ (f ∷ more) ≡ v = cc in
    (w, ap (λ k. k ∷ w) g, sym t)
later e f [] more (j ∷ u) v n p h = absurd (p.0 (let g : j ≡ f = cc in g))
later e f (i ∷ w) more (j ∷ u) v n p h =
    let g : i ≡ j = cc in
    let t : w ++ (f ∷ more) ≡ u ++ (e ∷ v) = cc in
    let q = later e f w more u v n p.1 t in
    (q.0, ap (λ k. k ∷ w) g ∙ ap (λ l. j ∷ l) q.1, q.2)

-- if f may come next, the types before it are a whole word, in parts
before_fill : (a : Order) (e f : ℕ) (w : List ℕ) → has a f ≡ false → f ≢ e → Begins (ends a e f) (w ++ f ∷ [])
    → Parts a e f w
before_fill a e f w nf n g =
    let p = parts_of a e f (w ++ (f ∷ g.0)) (subst (IsWord (ends a e f)) (append_assoc w (f ∷ []) g.0) g.1) in
    let q = later e f w g.0 p.0 p.1 n (word_lacks a f p.0 nf p.2) p.4 in
    (p.0, q.0, p.2, all_left (λ x. x ≡ f) q.0 (f ∷ g.0) (subst (Repeats f) q.2 p.3), q.1)

-- if f may come next, no other type may
pub fill_alone : (a : Order) (e f k : ℕ) (w : List ℕ) → has a e ≡ false → has a f ≡ false → f ≢ e
    → Begins (ends a e f) (w ++ f ∷ []) → Begins (ends a e f) (w ++ k ∷ []) → k ≡ f
fill_alone a e f k w ne nf n g h =
    let p = before_fill a e f w nf n g in
    let q = parts_of a e f (w ++ (k ∷ h.0)) (subst (IsWord (ends a e f)) (append_assoc w (k ∷ []) h.0) h.1) in
    let both : p.0 ++ (e ∷ (p.1 ++ (k ∷ h.0))) ≡ q.0 ++ (e ∷ q.1) = sym (append_assoc p.0 (e ∷ p.1) (k ∷ h.0))
    ∙ ap (λ l. l ++ (k ∷ h.0)) (sym p.4) ∙ q.4 in
    let rest = first_once e p.0 q.0 (p.1 ++ (k ∷ h.0)) q.1 (word_lacks a e p.0 ne p.2) (word_lacks a e q.0 ne q.2)
    both in
    (all_right (λ x. x ≡ f) p.1 (k ∷ h.0) (subst (Repeats f) (sym rest) q.3)).0

-- if f may come next, the types before it are a whole word
pub fill_ends : (a : Order) (e f : ℕ) (w : List ℕ) → has a f ≡ false → f ≢ e → Begins (ends a e f) (w ++ f ∷ [])
    → IsWord (ends a e f) w
fill_ends a e f w nf n g =
    let p = before_fill a e f w nf n g in
    subst (IsWord (ends a e f)) (sym p.4) (put_parts a e f p.0 p.1 p.2 p.3)

-- after a whole word f may come
pub fill_more : (a : Order) (e f : ℕ) (w : List ℕ) → IsWord (ends a e f) w → Begins (ends a e f) (w ++ f ∷ [])
fill_more a e f w h =
    let p = parts_of a e f w h in
    let more : Repeats f (p.1 ++ f ∷ []) = all_append (λ x. x ≡ f) p.1 (f ∷ []) p.3 (refl, tt) in
    let whole : w ++ f ∷ [] ≡ p.0 ++ (e ∷ (p.1 ++ f ∷ [])) = ap (λ l. l ++ f ∷ []) p.4 ∙ append_assoc p.0 (e ∷ p.1)
    (f ∷ []) in (
      [],
      subst (IsWord (ends a e f)) (sym (append-nil (w ++ f ∷ []) ∙ whole))
          (put_parts a e f p.0 (p.1 ++ f ∷ []) p.2 more),
    )
