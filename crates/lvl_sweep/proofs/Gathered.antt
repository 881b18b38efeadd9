-- The edges of one more ring.
use Rattle.std.proofs.Common.{◌≡◌, ℕ, ◌+◌, ◌<◌, ◌≤◌, Bool, true, false, ◌&&◌, not, eqb, cond, List, [], length, get_or}
use Rattle.std.proofs.Common.{◌∷◌, ◌++◌, take, ◌<ℤ◌, int_lt, All, count_by, refl, sym, ◌∙◌, ap, arith, inl, inr}
use Rattle.std.proofs.lemmas.Grind.{common_steps}
use Rattle.std.specs.List.Sorted.{IsPermutation}
use Rattle.std.proofs.lemmas.Bool.{cases_lt, eqb-true, eq-eqb}
use Rattle.std.proofs.lemmas.List.{take_all, take_more, length-take, get_or-take}
use Rattle.std.proofs.lemmas.List.Elements.{All-weaker}
use Rattle.std.proofs.lemmas.List.Sorted.{sum_by-IsPermutation, All-permutation}
use Rattle.lvl_grid.specs.declared.point.Point.{Point}
use Rattle.lvl_grid.specs.declared.point.Square.{Square}
use Rattle.lvl_grid.specs.Winding.{edges, goes_up, goes_down}
use Rattle.lvl_sweep.specs.declared.edge.Edge.{Edge}
use Rattle.lvl_sweep.specs.Bands.{is_vertical, all_edges}
use Rattle.lvl_sweep.specs.inside.Alive.{any_edge, alive, rises, falls, AreEdgesOf, HasSame}
use Rattle.lvl_sweep.proofs.Winds.{count_cons, count_none, other}

not_same_by : (a b : ℕ) (t : Bool) → eqb a b ≡ t → b < a → t ≡ false
not_same_by a b false e h = refl
not_same_by a b true e h = absurd (let same : a ≡ b = eqb-true a b e in omega arith)

not_same : (a b : ℕ) → b < a → eqb a b ≡ false
not_same a b h = not_same_by a b (eqb a b) refl h

far : (a b c d : Bool) → c ≡ false → (a && (b && (c && d))) ≡ false
far true true c d e = rw e refl
far true false c d e = refl
far false b c d e = refl

-- one of the two counts, with the tests of that direction
one_more : (p : ℕ → Edge → Bool) (q : Point × Point → Bool) (rings : List (List Point)) (ring : List Point) (i : ℕ)
    (es new : List Edge) (r : ℕ)
    → i < length rings → ring ≡ get_or rings i []
    → ((r : ℕ) → r < length (take i rings) → count_by q (edges (get_or (take i rings) r [])) ≡ count_by (p r) es)
    → ((r : ℕ) → i < r + 1 → count_by (p r) es ≡ 0)
    → ((r : ℕ) → count_by (p r) new ≡ count_by (p r) es + cond (eqb i r) (count_by q (edges ring)) 0)
    → r < length (take (i + 1) rings) → count_by q (edges (get_or (take (i + 1) rings) r [])) ≡ count_by (p r) new
one_more p q rings ring i es new r lt is before none more within =
    let short : r < i + 1 = omega (arith, length-take (i + 1) rings, within) in
    elim (cases_lt r i) [
      | inl old ↦
          let apart : eqb i r ≡ false = not_same i r old in
          let stays : count_by (p r) new ≡ count_by (p r) es + cond false (count_by q (edges ring)) 0 =
          more r ∙ ap (λ t. count_by (p r) es + cond t (count_by q (edges ring)) 0) apart in
          let there : r < length (take i rings) = omega (arith, length-take i rings, old, lt) in
          let seen : count_by q (edges (get_or rings r [])) ≡ count_by (p r) es =
          rw (get_or-take i rings r [] old) at (before r there) in
          rw (get_or-take (i + 1) rings r [] short) (omega (arith, seen, stays))
      | inr ge ↦
          let here : i ≡ r = omega arith in
          let test : eqb i r ≡ true = eq-eqb i r here in
          let all : count_by (p r) new ≡ count_by (p r) es + cond true (count_by q (edges ring)) 0 =
          more r ∙ ap (λ t. count_by (p r) es + cond t (count_by q (edges ring)) 0) test in
          let item : count_by q (edges ring) ≡ count_by q (edges (get_or rings r [])) = rw (is, here) refl in
          rw (get_or-take (i + 1) rings r [] short) (omega (arith, all, item, none r (omega arith)))
    ]

pub one_gathered : (rings : List (List Point)) (ring : List Point) (i : ℕ) (es new : List Edge) → i < length rings
    → ring ≡ get_or rings i [] → AreEdgesOf (take i rings) es
    → ((r : ℕ) (s : Square) → count_by (rises r s) new ≡ count_by (rises r s) es + cond (eqb i r)
    (count_by (goes_up s) (edges ring)) 0)
    → ((r : ℕ) (s : Square) → count_by (falls r s) new ≡ count_by (falls r s) es + cond (eqb i r)
    (count_by (goes_down s) (edges ring)) 0)
    → ((n : ℕ) → i < n → All (λ e. e.ring < n) es → All (λ e. e.ring < n) new)
    → (All (λ e. e.low <ℤ e.high) es → All (λ e. e.low <ℤ e.high) new)
    → AreEdgesOf (take (i + 1) rings) new
one_gathered rings ring i es new lt is old up down numbers full =
    let few : All (λ e. e.ring < i) es = All-weaker (λ e. e.ring < length (take i rings)) (λ e. e.ring < i)
    (λ e k. omega (arith, length-take i rings, k)) es old.numbers in
    let no_rise : (s : Square) (r : ℕ) → i < r + 1 → count_by (rises r s) es ≡ 0 = λ s r h. count_none (rises r s) es
    (All-weaker (λ e. e.ring < i) (λ e. rises r s e ≡ false)
    (λ e k. far (alive s.y e) (int_lt s.x e.x) (eqb e.ring r) e.up (other e.ring r (omega arith))) es few) in
    let no_fall : (s : Square) (r : ℕ) → i < r + 1 → count_by (falls r s) es ≡ 0 = λ s r h. count_none (falls r s) es
    (All-weaker (λ e. e.ring < i) (λ e. falls r s e ≡ false)
    (λ e k. far (alive s.y e) (int_lt s.x e.x) (eqb e.ring r) (not e.up) (other e.ring r (omega arith))) es
    few) in
    let longer : length (take (i + 1) rings) ≡ i + 1 = omega (arith, length-take (i + 1) rings, lt) in
    record {
      rising = λ r s within. one_more (λ r. rises r s) (goes_up s) rings ring i es new r lt is (λ r k. old.rising r s k)
          (no_rise s) (λ r. up r s) within;
      falling = λ r s within. one_more (λ r. falls r s) (goes_down s) rings ring i es new r lt is
          (λ r k. old.falling r s k) (no_fall s) (λ r. down r s) within;
      numbers =
          rw longer (numbers (i + 1) (omega arith) (All-weaker (λ e. e.ring < i) (λ e. e.ring < i + 1)
          (λ e k. omega arith) es few));
      full = full old.full;
    }

pub all_gathered : (rings : List (List Point)) (i : ℕ) (es sorted : List Edge) → length rings ≤ i
    → AreEdgesOf (take i rings) es → IsPermutation es sorted → AreEdgesOf rings sorted
all_gathered rings i es sorted far old moved =
    let whole : AreEdgesOf rings es = rw (take_all i rings far) at old in
    record {
      rising = λ r s lt. whole.rising r s lt ∙ sym (sum_by-IsPermutation (λ e. cond (rises r s e) 1 0) es sorted moved);
      falling = λ r s lt. whole.falling r s lt ∙ sym (sum_by-IsPermutation (λ e. cond (falls r s e) 1 0) es sorted
          moved);
      numbers = All-permutation (λ e. e.ring < length rings) es sorted moved whole.numbers;
      full = All-permutation (λ e. e.low <ℤ e.high) es sorted moved whole.full;
    }

count_app : {A : Type 0} (p : A → Bool) (xs ys : List A) → count_by p (xs ++ ys) ≡ count_by p xs + count_by p ys
count_app p [] ys = omega arith
count_app p (x ∷ xs) ys =
    omega (arith, count_cons p x (xs ++ ys), count_cons p x xs, count_app p xs ys)

edges_app : (as' bs : List (List Point)) → all_edges (as' ++ bs) ≡ all_edges as' ++ all_edges bs
edges_app [] bs = refl
edges_app (a ∷ as') bs = grind (arith, common_steps, edges_app as' bs)

count_each : (es : List Edge) → count_by any_edge es ≡ length es
count_each [] = refl
count_each (e ∷ es) = omega (arith, count_cons any_edge e es, count_each es)

pub length_same : (es fs : List Edge) → HasSame es fs → length fs ≡ length es
length_same es fs same =
    let counted : count_by any_edge fs ≡ count_by any_edge es = same (λ e. cond (any_edge e) 1 0) in
    omega (arith, counted, count_each es, count_each fs)

-- the vertical edges of one more ring
pub one_counted : (rings : List (List Point)) (ring : List Point) (i : ℕ) (es new : List Edge) → i < length rings
    → ring ≡ get_or rings i [] → count_by any_edge es ≡ count_by is_vertical (all_edges (take i rings))
    → count_by any_edge new ≡ count_by any_edge es + count_by is_vertical (edges ring)
    → count_by any_edge new ≡ count_by is_vertical (all_edges (take (i + 1) rings))
one_counted rings ring i es new lt is old more =
    let longer : take (i + 1) rings ≡ take i rings ++ ring ∷ [] = rw (← is) at (take_more rings i [] lt) in
    let last : count_by is_vertical (all_edges (ring ∷ [])) ≡ count_by is_vertical (edges ring) =
    count_app is_vertical (edges ring) [] ∙ omega arith in
    rw (longer, edges_app (take i rings) (ring ∷ []))
    (omega (arith, count_app is_vertical (all_edges (take i rings)) (all_edges (ring ∷ [])), old, more, last))

pub all_counted : (rings : List (List Point)) (i : ℕ) (es sorted : List Edge) → length rings ≤ i
    → count_by any_edge es ≡ count_by is_vertical (all_edges (take i rings)) → IsPermutation es sorted
    → length sorted ≡ count_by is_vertical (all_edges rings)
all_counted rings i es sorted far old moved =
    let whole : count_by any_edge es ≡ count_by is_vertical (all_edges rings) = rw (take_all i rings far) at old in
    let same : count_by any_edge es ≡ count_by any_edge sorted =
    sym (sum_by-IsPermutation (λ e. cond (any_edge e) 1 0) es sorted moved) in
    omega (arith, whole, same, count_each sorted)
