-- Counts of edges, ring by ring, during a walk from the left.
use Rattle.std.proofs.Common.{◌≡◌, ◌≢◌, ℕ, ◌+◌, ◌<◌, ◌≤◌, ◌^◌, Bool, true, false, ◌&&◌, not, cond, eqb, List, [], ◌∷◌}
use Rattle.std.proofs.Common.{◌++◌, length, get_or, set, take, ℤ, pos, ◌+ℤ◌, ◌-ℤ◌, ◌≤ℤ◌, int_le, All, count_by, IsTrue}
use Rattle.std.proofs.Common.{◌↔◌, refl, sym, ◌∙◌, ap, arith, suc, inl, inr, unsigned_abs}
use Rattle.std.specs.Ordering.{int_eq}
use Rattle.std.proofs.lemmas.Int.{ints}
use Rattle.std.proofs.lemmas.Bool.{cases_lt, eqb-true, eqb-false}
use Rattle.std.proofs.lemmas.Bool.Decides.{Decides-int_eq}
use Rattle.std.proofs.lemmas.List.{get_or-set_same, get_or-set_other, length-take}
use Rattle.std.proofs.lemmas.List.Elements.{All-weaker, All-head, All-tail}
use Rattle.std.proofs.lemmas.List.Sums.{sum_by_push, sum_by-cons, get_or-le-sum_by, count_by-le-length}
use Rattle.lvl_sweep.specs.declared.edge.Edge.{Edge}
use Rattle.lvl_sweep.specs.inside.Edges.{turn, how_many_turn, net, net_left, IsInside}

abbrev pub bit : Bool → ℕ
bit t = cond t 1 0

pub count_push : {A : Type 0} (p : A → Bool) (xs : List A) (y : A)
    → count_by p (xs ++ y ∷ []) ≡ count_by p xs + cond (p y) 1 0
count_push p xs y = sum_by_push (λ x. cond (p x) 1 0) xs y

pub count_cons : {A : Type 0} (p : A → Bool) (y : A) (xs : List A)
    → count_by p (y ∷ xs) ≡ cond (p y) 1 0 + count_by p xs
count_cons p y xs = sum_by-cons (λ x. cond (p x) 1 0) y xs

pub count_same : {A : Type 0} (p q : A → Bool) (xs : List A) → All (λ x. p x ≡ q x) xs → count_by p xs ≡ count_by q xs
count_same p q [] h = refl
count_same p q (x ∷ xs) h =
    let here : p x ≡ q x = All-head (λ x. p x ≡ q x) x xs h in
    let first : bit (p x) ≡ bit (q x) = ap bit here in
    omega (arith, count_cons p x xs, count_cons q x xs, first, count_same p q xs (All-tail (λ x. p x ≡ q x) x xs h))

pub count_none : {A : Type 0} (p : A → Bool) (xs : List A) → All (λ x. p x ≡ false) xs → count_by p xs ≡ 0
count_none p [] h = refl
count_none p (x ∷ xs) h =
    let here : bit (p x) ≡ bit false = ap bit (All-head (λ x. p x ≡ false) x xs h) in
    omega (arith, count_cons p x xs, here, count_none p xs (All-tail (λ x. p x ≡ false) x xs h))

net_by : (a b a' b' : ℕ) (t : Bool) → a' ≡ a + cond t 1 0 → b' ≡ b + cond (not t) 1 0
    → pos a' -ℤ pos b' ≡ (pos a -ℤ pos b) +ℤ turn t
net_by a b a' b' true h k = omega (arith, ints)
net_by a b a' b' false h k = omega (arith, ints)

-- one more edge of the ring, or of another
net_here : (r : ℕ) (es : List Edge) (e : Edge) → eqb e.ring r ≡ true → net r (es ++ e ∷ []) ≡ net r es +ℤ turn e.up
net_here r es e h =
    let up : (eqb e.ring r && e.up) ≡ e.up = rw h refl in
    let down : (eqb e.ring r && not e.up) ≡ not e.up = rw h refl in
    net_by _ _ _ _ e.up (count_push (λ e. eqb e.ring r && e.up) es e
    ∙ ap (λ t. count_by (λ e. eqb e.ring r && e.up) es + cond t 1 0) up)
    (count_push (λ e. eqb e.ring r && not e.up) es e ∙ ap (λ t. count_by (λ e. eqb e.ring r && not e.up) es + cond t
    1 0) down)

net_stays : (a b a' b' : ℕ) → a' ≡ a + cond false 1 0 → b' ≡ b + cond false 1 0 → pos a' -ℤ pos b' ≡ pos a -ℤ pos b
net_stays a b a' b' h k = omega (arith, ints)

net_elsewhere : (r : ℕ) (es : List Edge) (e : Edge) → eqb e.ring r ≡ false → net r (es ++ e ∷ []) ≡ net r es
net_elsewhere r es e h =
    let up : (eqb e.ring r && e.up) ≡ false = rw h refl in
    let down : (eqb e.ring r && not e.up) ≡ false = rw h refl in
    net_stays _ _ _ _ (count_push (λ e. eqb e.ring r && e.up) es e
    ∙ ap (λ t. count_by (λ e. eqb e.ring r && e.up) es + cond t 1 0) up)
    (count_push (λ e. eqb e.ring r && not e.up) es e ∙ ap (λ t. count_by (λ e. eqb e.ring r && not e.up) es + cond t
    1 0) down)

-- if no edge is right of z, all count
pub left_of_all : (r : ℕ) (z : ℤ) (es : List Edge) → All (λ e. e.x ≤ℤ z) es → net_left r z es ≡ net r es
left_of_all r z es h =
    let tests : All (λ e. int_le e.x z ≡ true) es = All-weaker (λ e. e.x ≤ℤ z) (λ e. int_le e.x z ≡ true)
    (λ e k. grind (arith, ints)) es h in
    let ups : count_by (λ e. int_le e.x z && (eqb e.ring r && e.up)) es ≡ count_by (λ e. eqb e.ring r && e.up) es =
    count_same (λ e. int_le e.x z && (eqb e.ring r && e.up)) (λ e. eqb e.ring r && e.up) es
    (All-weaker (λ e. int_le e.x z ≡ true) (λ e. (int_le e.x z && (eqb e.ring r && e.up)) ≡ (eqb e.ring r && e.up))
    (λ e k. rw k refl) es tests) in
    let downs : count_by (λ e. int_le e.x z && (eqb e.ring r && not e.up)) es ≡ count_by (λ e. eqb e.ring r && not e.up)
    es = count_same (λ e. int_le e.x z && (eqb e.ring r && not e.up)) (λ e. eqb e.ring r && not e.up) es
    (All-weaker (λ e. int_le e.x z ≡ true)
    (λ e. (int_le e.x z && (eqb e.ring r && not e.up)) ≡ (eqb e.ring r && not e.up)) (λ e k. rw k refl) es tests) in
    rw (ups, downs) refl

other_by : (a b : ℕ) (t : Bool) → eqb a b ≡ t → a < b → t ≡ false
other_by a b false e h = refl
other_by a b true e h = absurd (let same : a ≡ b = eqb-true a b e in omega arith)

pub other : (a b : ℕ) → a < b → eqb a b ≡ false
other a b h = other_by a b (eqb a b) refl h

-- a ring without edges among these
pub silent : (r : ℕ) (es : List Edge) → All (λ e. eqb e.ring r ≡ false) es → net r es ≡ pos 0
silent r es tests =
    let ups : count_by (λ e. eqb e.ring r && e.up) es ≡ 0 = count_none (λ e. eqb e.ring r && e.up) es
    (All-weaker (λ e. eqb e.ring r ≡ false) (λ e. (eqb e.ring r && e.up) ≡ false) (λ e k. rw k refl) es tests) in
    let downs : count_by (λ e. eqb e.ring r && not e.up) es ≡ 0 = count_none (λ e. eqb e.ring r && not e.up) es
    (All-weaker (λ e. eqb e.ring r ≡ false) (λ e. (eqb e.ring r && not e.up) ≡ false) (λ e k. rw k refl) es tests)
    in
    rw (ups, downs) refl

-- a number that isn't the index of a ring
pub no_ring : (r n : ℕ) (es : List Edge) → All (λ e. e.ring < n) es → n ≤ r → net r es ≡ pos 0
no_ring r n es h far =
    silent r es (All-weaker (λ e. e.ring < n) (λ e. eqb e.ring r ≡ false) (λ e k. other e.ring r (omega arith)) es h)

pub within_rings : (r n : ℕ) (es : List Edge) → All (λ e. e.ring < n) es → net r es ≢ pos 0 → r < n
within_rings r n es h k = elim (cases_lt r n) [ inl lt ↦ lt | inr ge ↦ absurd (k (no_ring r n es h ge)) ]

-- some count isn't 0 exactly if the number of such counts isn't 0
pub turns_at : (counts : List ℤ) (r : ℕ) → r < length counts → get_or counts r (pos 0) ≢ pos 0
    → how_many_turn counts ≢ 0
turns_at counts r lt h e =
    let f : ℤ → ℕ = λ c. cond (not (int_eq c (pos 0))) 1 0 in
    let le : f (get_or counts r (pos 0)) ≤ how_many_turn counts = get_or-le-sum_by f counts r (pos 0) lt in
    elim (int_eq (get_or counts r (pos 0)) (pos 0)) as (λ t. int_eq (get_or counts r (pos 0)) (pos 0) ≡ t → ⊥) [
      | true ↦ λ same. h ((Decides-int_eq (get_or counts r (pos 0)) (pos 0)).0 same)
      | false ↦ λ differ. let one : f (get_or counts r (pos 0)) ≡ 1 = rw differ refl in
          absurd (omega (arith, le, one, e))
    ] refl

pub some_turns : (counts : List ℤ) → how_many_turn counts ≢ 0 → (r : ℕ) × (r < length counts)
    × (get_or counts r (pos 0) ≢ pos 0)
some_turns [] h = absurd (h refl)
some_turns (c ∷ cs) h =
    elim (int_eq c (pos 0)) as (λ t. int_eq c (pos 0) ≡ t → (r : ℕ) × (r < length (c ∷ cs))
    × (get_or (c ∷ cs) r (pos 0) ≢ pos 0)) [
      | false ↦ λ differ. (
        0,
        omega arith,
        λ e. let same : int_eq c (pos 0) ≡ true = (Decides-int_eq c (pos 0)).1 e in cc,
      )
      | true ↦ λ same.
          let none : bit (not (int_eq c (pos 0))) ≡ bit false = ap (λ t. bit (not t)) same in
          let rest : how_many_turn cs ≢ 0 =
          λ e. h (omega (arith, count_cons (λ c. not (int_eq c (pos 0))) c cs, none, e)) in
          let found : (r : ℕ) × (r < length cs) × (get_or cs r (pos 0) ≢ pos 0) = some_turns cs rest in
          (suc found.0, omega (arith, found.1), found.2)
    ] refl

abs_diff : (a b n : ℕ) → a ≤ n → b ≤ n → unsigned_abs (pos a -ℤ pos b) ≤ n
abs_diff a b n h k = omega (arith, ints)

net_small : (r : ℕ) (es : List Edge) → unsigned_abs (net r es) ≤ length es
net_small r es =
    abs_diff _ _ (length es) (count_by-le-length (λ e. eqb e.ring r && e.up) es)
    (count_by-le-length (λ e. eqb e.ring r && not e.up) es)

pub small_count : (es : List Edge) (i r : ℕ) (c : ℤ) → i < length es → length es < 2 ^ 63 → c ≡ net r (take i es)
    → unsigned_abs c + 1 < 2 ^ 63
small_count es i r c lt few e =
    let le : unsigned_abs (net r (take i es)) ≤ length (take i es) = net_small r (take i es) in
    rw e (omega (arith, le, length-take i es, lt, few))

-- what the counts are after one more edge
pub counts_more : (cs new : List ℤ) (es : List Edge) (e : Edge) (r : ℕ)
    → new ≡ set cs e.ring (get_or cs e.ring (pos 0) +ℤ turn e.up)
    → ((r : ℕ) → r < length cs → get_or cs r (pos 0) ≡ net r es) → e.ring < length cs → r < length cs
    → get_or new r (pos 0) ≡ net r (es ++ e ∷ [])
counts_more cs new es e r is before has lt =
    elim (eqb e.ring r) as (λ t. eqb e.ring r ≡ t → get_or new r (pos 0) ≡ net r (es ++ e ∷ [])) [
      | true ↦ λ here.
          let same : e.ring ≡ r = eqb-true e.ring r here in
          let old : get_or cs e.ring (pos 0) ≡ net r es = rw same (before r lt) in
          let found : get_or new r (pos 0) ≡ get_or cs e.ring (pos 0) +ℤ turn e.up =
          rw (is, ← same) (get_or-set_same cs e.ring _ (pos 0) has) in
          found ∙ (ap (λ c. c +ℤ turn e.up) old ∙ sym (net_here r es e here))
      | false ↦ λ there.
          let differ : r ≢ e.ring = λ h. eqb-false e.ring r there (sym h) in
          rw is (get_or-set_other cs e.ring r _ (pos 0) differ) ∙ (before r lt ∙ sym (net_elsewhere r es e there))
    ] refl

truth : (n : ℕ) (t : Bool) → t ≡ not (eqb n 0) → IsTrue t ↔ (n ≢ 0)
truth n t e =
    elim (eqb n 0) as (λ b. eqb n 0 ≡ b → IsTrue t ↔ (n ≢ 0)) [
      | true ↦ λ z. (
        λ h. absurd (let clash : true ≡ false = sym h ∙ (e ∙ ap not z) in cc),
        λ h. absurd (h (eqb-true n 0 z)),
      )
      | false ↦ λ z. (λ h. λ k. eqb-false n 0 z k, λ h. e ∙ ap not z)
    ] refl

pub inside_left : (es : List Edge) (cs : List ℤ) (z : ℤ) (n : ℕ) (t : Bool) → All (λ e. e.x ≤ℤ z) es
    → All (λ e. e.ring < length cs) es → ((r : ℕ) → r < length cs → get_or cs r (pos 0) ≡ net r es)
    → n ≡ how_many_turn cs → t ≡ not (eqb n 0) → IsTrue t ↔ IsInside es z
inside_left es cs z n t left has counts many is = (
  λ h.
      let some : how_many_turn cs ≢ 0 = λ e. (truth n t is).0 h (many ∙ e) in
      let found : (r : ℕ) × (r < length cs) × (get_or cs r (pos 0) ≢ pos 0) = some_turns cs some in
      (found.0, λ e. found.2 (counts found.0 found.1 ∙ (sym (left_of_all found.0 z es left) ∙ e))),
  λ f.
      let turns : net f.0 es ≢ pos 0 = λ e. f.1 (left_of_all f.0 z es left ∙ e) in
      let within : f.0 < length cs = within_rings f.0 (length cs) es has turns in
      (truth n t is).1 (λ e. turns_at cs f.0 within (λ k. turns (sym (counts f.0 within) ∙ k)) (sym many ∙ e)),
)
