-- Sums of marks, point by point.
use Rattle.std.proofs.Common.{◌≡◌, ◌≢◌, ℕ, zero, suc, add-zero, ◌+◌, ◌<◌, ◌≤◌, Bool, true, false, ◌&&◌, cond, List}
use Rattle.std.proofs.Common.{[], ◌∷◌, ◌++◌, length}
use Rattle.std.proofs.Common.{get_or, take, drop, ℤ, pos, negsuc, ◌+ℤ◌, ◌-ℤ◌, ◌<ℤ◌, ◌≤ℤ◌, All, refl, sym, ◌∙◌, ap}
use Rattle.std.proofs.Common.{subst, arith}
use Rattle.std.proofs.Common.{◌⊎◌, inl, inr}
use Rattle.std.proofs.Common.{FitsSigned, ◌^◌}
use Rattle.std.specs.Int.{w128}
use Rattle.std.specs.List.{AllPairs}
use Rattle.std.specs.Ordering.{int_eq}
use Rattle.std.proofs.lemmas.Int.{ints, by_lt_z}
use Rattle.std.proofs.lemmas.Bool.{and_left, and_right, cases_Bool}
use Rattle.std.proofs.lemmas.Bool.Decides.{Decides-int_eq, not_from_Decides}
use Rattle.std.proofs.lemmas.List.{append-nil, take-append-drop, take_all, get_or-drop, length-drop, get_or_default}
use Rattle.std.proofs.lemmas.List.Elements.{All-nil, All-head, All-tail, All-push, All-weaker}
use Rattle.std.proofs.lemmas.List.Quantifiers.{all_pairs_push}
use Rattle.lvl_corners.specs.declared.corner.Corner.{Corner}
use Rattle.lvl_corners.specs.declared.mark.Mark.{Mark}
use Rattle.lvl_corners.specs.declared.sum.Sum.{Sum}
use Rattle.lvl_corners.specs.Corners.{ComesBefore}
use Rattle.lvl_corners.specs.inside.Marks.{is_at, net, change_of, AreInOrder}
use Rattle.lvl_corners.specs.inside.Sums.{started, added, IsAt, corners_of_sum, Steps, total_at, IsLess, AreSummed}
use Rattle.lvl_corners.specs.inside.Sums.{AreTotals}
use Rattle.lvl_corners.proofs.IntTests.{eq_yes, eq_is, ne_below, ne_above}
use Rattle.lvl_corners.proofs.Nets.{net_more, net_append, net_none}

-- if one point is less than another, they differ
less_apart : (x y x' y' : ℤ) → IsLess x y x' y' → (int_eq y y' && int_eq x x') ≡ false
less_apart x y x' y' h = elim h [
  | inl left ↦ and_right (int_eq y y') (int_eq x x') (ne_below x x' left)
  | inr below ↦ and_left (int_eq y y') (int_eq x x') (ne_below y y' below.1)
]

more_apart : (x y x' y' : ℤ) → IsLess x y x' y' → (int_eq y' y && int_eq x' x) ≡ false
more_apart x y x' y' h = elim h [
  | inl left ↦ and_right (int_eq y' y) (int_eq x' x) (ne_above x' x left)
  | inr below ↦ and_left (int_eq y' y) (int_eq x' x) (ne_above y' y below.1)
]

less_from : (x y x' y' : ℤ) → x ≤ℤ x' → (x ≡ x' → y ≤ℤ y') → ((x ≡ x') × (y ≡ y') → ⊥) → IsLess x y x' y'
less_from x y x' y' le up apart =
    by_lt_z x x' (λ lt. inl lt) (λ ge.
    let e : x ≡ x' = omega (arith, ints, le, ge) in
    let low : y ≤ℤ y' = up e in
    by_lt_z y y' (λ lt. inr (e, lt)) (λ ge'. absurd (apart (e, omega (arith, ints, low, ge')))))

less_far : (x y a b a' b' : ℤ) → IsLess x y a b → a ≤ℤ a' → (a ≡ a' → b ≤ℤ b') → IsLess x y a' b'
less_far x y a b a' b' h le up = elim h [
  | inl left ↦ inl (omega (arith, ints, left, le))
  | inr below ↦ by_lt_z a a'
      (λ lt. let same : x ≡ a = below.0 in inl (omega (arith, ints, lt, same)))
      (λ ge.
      let e : a ≡ a' = omega (arith, ints, le, ge) in
      let high : b ≤ℤ b' = up e in
      let low : y <ℤ b = below.1 in
      inr (below.0 ∙ e, omega (arith, ints, high, low)))
]

less_than_both : (x y a b a' b' : ℤ) → IsLess x y a b → IsLess a b a' b' → IsLess x y a' b'
less_than_both x y a b a' b' h k = elim k [
  | inl left ↦ less_far x y a b a' b' h (omega (arith, ints, left)) (λ e. absurd (omega (arith, ints, left, e)))
  | inr below ↦ let same : a ≡ a' = below.0 in let up : b <ℤ b' = below.1 in
      less_far x y a b a' b' h (omega (arith, ints, same)) (λ e. omega (arith, ints, up))
]

pub total_none : (x y : ℤ) (ks : List Corner) → All (λ k. IsLess k.x k.y x y) ks → total_at x y ks ≡ pos 0
total_none x y [] h = refl
total_none x y (k ∷ ks) h =
    let here : (int_eq k.y y && int_eq k.x x) ≡ false =
    less_apart k.x k.y x y (All-head (λ k. IsLess k.x k.y x y) k ks h) in
    let rest = total_none x y ks (All-tail (λ k. IsLess k.x k.y x y) k ks h) in
    rw (here, rest) refl

total_push : (x y : ℤ) (ks : List Corner) (l : Corner)
    → total_at x y (ks ++ l ∷ []) ≡ total_at x y ks +ℤ cond (int_eq l.y y && int_eq l.x x) l.change (pos 0)
total_push x y [] l = omega (arith, ints)
total_push x y (k ∷ ks) l = let rest = total_push x y ks l in omega (arith, ints, rest)

corner_of : Sum → Corner
corner_of s = record { x = s.x; y = s.y; change = s.change }

-- a corner is sent if the sum isn't 0
sent_cases : (s : Sum) → ((s.change ≡ pos 0) × (corners_of_sum s ≡ [])) ⊎ ((s.change ≢ pos 0)
    × (corners_of_sum s ≡ corner_of s ∷ []))
unfolding corner_of
sent_cases s = elim (cases_Bool (int_eq s.change (pos 0))) [
  | inl t ↦ inl (eq_is s.change (pos 0) t, rw t refl)
  | inr f ↦ inr (not_from_Decides (int_eq s.change (pos 0)) (Decides-int_eq s.change (pos 0)) f, rw f refl)
]

cond_same : (t : Bool) (z : ℤ) → cond t z z ≡ z
cond_same true z = refl
cond_same false z = refl

total_sent : (x y : ℤ) (ks : List Corner) (s : Sum)
    → total_at x y (ks ++ corners_of_sum s) ≡ total_at x y ks +ℤ cond (int_eq s.y y && int_eq s.x x) s.change (pos 0)
unfolding corner_of
total_sent x y ks s = elim (sent_cases s) [
  | inl none ↦
      let zero' : cond (int_eq s.y y && int_eq s.x x) s.change (pos 0) ≡ pos 0 =
      ap (λ c. cond (int_eq s.y y && int_eq s.x x) c (pos 0)) none.0 ∙ cond_same (int_eq s.y y && int_eq s.x x) (pos
      0) in
      let all : total_at x y (ks ++ corners_of_sum s) ≡ total_at x y ks =
      ap (λ (ls : List Corner). total_at x y (ks ++ ls)) none.1 ∙ ap (total_at x y) (append-nil ks) in
      omega (arith, ints, zero', all)
  | inr one ↦
      ap (λ (ls : List Corner). total_at x y (ks ++ ls)) one.1 ∙ total_push x y ks (corner_of s)
]

rising_sent : (ks : List Corner) (s : Sum) → AllPairs ComesBefore ks → All (λ k. IsLess k.x k.y s.x s.y) ks
    → AllPairs ComesBefore (ks ++ corners_of_sum s)
unfolding corner_of
rising_sent ks s up earlier = elim (sent_cases s) [
  | inl none ↦ subst (AllPairs ComesBefore) (sym (ap (λ (ls : List Corner). ks ++ ls) none.1 ∙ append-nil ks)) up
  | inr one ↦ subst (λ (ls : List Corner). AllPairs ComesBefore (ks ++ ls)) (sym one.1)
      (all_pairs_push ComesBefore ks (corner_of s) up (λ k d lt. earlier k d lt))
]

all_sent : (P : Corner → Type 0) (ks : List Corner) (s : Sum) → All P ks → (s.change ≢ pos 0 → P (corner_of s))
    → All P (ks ++ corners_of_sum s)
all_sent P ks s all one = elim (sent_cases s) [
  | inl none ↦ subst (All P) (sym (ap (λ (ls : List Corner). ks ++ ls) none.1 ∙ append-nil ks)) all
  | inr some ↦ subst (λ (ls : List Corner). All P (ks ++ ls)) (sym some.1) (All-push P ks (corner_of s) all (one
      some.0))
]

change_low : (t : Bool) → negsuc 0 ≤ℤ cond t (pos 1) (negsuc 0)
change_low true = omega (arith, ints)
change_low false = omega (arith, ints)

change_high : (t : Bool) → cond t (pos 1) (negsuc 0) ≤ℤ pos 1
change_high true = omega (arith, ints)
change_high false = omega (arith, ints)

add_conds : (total old new a b : ℤ) (t : Bool) → total +ℤ cond t a (pos 0) ≡ old → new ≡ old +ℤ cond t b (pos 0)
    → total +ℤ cond t (a +ℤ b) (pos 0) ≡ new
add_conds total old new a b true h k = omega (arith, ints, h, k)
add_conds total old new a b false h k = omega (arith, ints, h, k)

same_default : (marks : List Mark) (i : ℕ) (d e : Mark) → i < length marks → get_or marks i d ≡ get_or marks i e
same_default marks i d e lt = get_or_default marks i d e lt

at_or_after : (s : Sum) (marks : List Mark) (i k : ℕ) (d : Mark) → AreInOrder marks
    → IsLess s.x s.y (get_or marks i d).x (get_or marks i d).y → i + k < length marks
    → IsLess s.x s.y (get_or marks (i + k) d).x (get_or marks (i + k) d).y
at_or_after s marks i zero d order less far =
    subst (λ j. IsLess s.x s.y (get_or marks j d).x (get_or marks j d).y) (sym (add-zero i)) less
at_or_after s marks i (suc k) d order less far =
    let o = order i (i + suc k) d (omega arith) far in
    less_far s.x s.y (get_or marks i d).x (get_or marks i d).y (get_or marks (i + suc k) d).x (get_or marks (i + suc
    k) d).y
    less o.0 o.1

first_before : (marks : List Mark) (j : ℕ) (d e : Mark) → AreInOrder marks → j < length marks
    → ((get_or marks 0 d).x ≤ℤ (get_or marks j e).x)
    × ((get_or marks 0 d).x ≡ (get_or marks j e).x → (get_or marks 0 d).y ≤ℤ (get_or marks j e).y)
first_before marks zero d e order far =
    let same : get_or marks 0 d ≡ get_or marks 0 e = same_default marks 0 d e far in
    rw same (omega (arith, ints), λ k. omega (arith, ints))
first_before marks (suc j) d e order far =
    let same : get_or marks 0 d ≡ get_or marks 0 e = same_default marks 0 d e (omega (arith, far)) in
    rw same (order 0 (suc j) e (omega arith) far)

-- the present sum is that of all of the first i marks that are at its point
pub change_is : (marks : List Mark) (i : ℕ) (sent : List Corner) (s : Sum) → AreSummed marks i sent s
    → net s.x s.y (take i marks) ≡ s.change
change_is marks i sent s h =
    let none : total_at s.x s.y sent ≡ pos 0 = total_none s.x s.y sent h.earlier in
    let at : int_eq s.y s.y ≡ true = eq_yes s.y s.y refl in
    let at' : int_eq s.x s.x ≡ true = eq_yes s.x s.x refl in
    let all : total_at s.x s.y sent +ℤ cond (true && true) s.change (pos 0) ≡ net s.x s.y (take i marks) =
    rw (at, at') at (h.totals s.x s.y) in
    omega (arith, ints, none, all)

-- if the next mark is at another point, no further one is at this point
pub change_done : (marks : List Mark) (i : ℕ) (sent : List Corner) (s : Sum) (d : Mark) → AreInOrder marks
    → AreSummed marks i sent s → i < length marks → ¬ IsAt s (get_or marks i d) → net s.x s.y marks ≡ s.change
change_done marks i sent s d order h lt apart =
    let m : Mark = get_or marks i d in
    let next = h.later i d (omega arith) lt in
    let less : IsLess s.x s.y m.x m.y = less_from s.x s.y m.x m.y next.0 next.1 apart in
    let after : All (λ m. is_at s.x s.y m ≡ false) (drop i marks) = λ k e short.
    let n : Mark = get_or marks (i + k) d in
    let there : get_or (drop i marks) k e ≡ n = get_or-drop i marks k e ∙ same_default marks (i + k) e d
    (omega (arith, length-drop i marks, short)) in
    let far : IsLess s.x s.y n.x n.y = at_or_after s marks i k d order less (omega (
      arith,
      length-drop i marks,
      short,
    )) in
    ap (λ m. is_at s.x s.y m) there ∙ more_apart s.x s.y n.x n.y far in
    let whole : net s.x s.y marks ≡ net s.x s.y (take i marks) +ℤ net s.x s.y (drop i marks) =
    sym (ap (net s.x s.y) (take-append-drop i marks)) ∙ net_append s.x s.y (take i marks) (drop i marks) in
    let none = net_none s.x s.y (drop i marks) after in
    let now = change_is marks i sent s h in
    omega (arith, ints, whole, none, now)

-- one more mark at the point
summed_same : (marks : List Mark) (i : ℕ) (sent : List Corner) (s : Sum) (d : Mark) → AreSummed marks i sent s
    → i < length marks → IsAt s (get_or marks i d) → AreSummed marks (i + 1) sent (added s (get_or marks i d))
summed_same marks i sent s d h lt at =
    let m : Mark = get_or marks i d in
    record {
      rising = h.rising;
      nonzero = h.nonzero;
      earlier = h.earlier;
      totals = λ x y.
          let before = h.totals x y in
          let more = net_more x y marks i d lt in
          let same : is_at x y m ≡ (int_eq s.y y && int_eq s.x x) = rw (at.0, at.1) refl in
          let more' : net x y (take (i + 1) marks) ≡ net x y (take i marks)
          +ℤ cond (int_eq s.y y && int_eq s.x x) (change_of m) (pos 0) = rw same at more in
          add_conds (total_at x y sent) (net x y (take i marks)) (net x y (take (i + 1) marks)) s.change (change_of m)
          (int_eq s.y y && int_eq s.x x) before more';
      later = λ j e le far. h.later j e (omega (arith, le)) far;
      low = let step = change_low m.is_plus in let low = h.low in omega (arith, ints, step, low);
      high = let step = change_high m.is_plus in let high = h.high in omega (arith, ints, step, high);
    }

-- the next point, after the corner at the point before is sent
summed_next : (marks : List Mark) (i : ℕ) (sent : List Corner) (s : Sum) (d : Mark) → AreInOrder marks
    → AreSummed marks i sent s → i < length marks → ¬ IsAt s (get_or marks i d)
    → AreSummed marks (i + 1) (sent ++ corners_of_sum s) (started (get_or marks i d))
unfolding corner_of
summed_next marks i sent s d order h lt apart =
    let m : Mark = get_or marks i d in
    let next = h.later i d (omega arith) lt in
    let less : IsLess s.x s.y m.x m.y = less_from s.x s.y m.x m.y next.0 next.1 apart in
    record {
      rising = rising_sent sent s h.rising h.earlier;
      nonzero = all_sent (λ k. k.change ≢ pos 0) sent s h.nonzero (λ some. some);
      earlier = all_sent (λ k. IsLess k.x k.y m.x m.y) sent s
          (All-weaker (λ k. IsLess k.x k.y s.x s.y) (λ k. IsLess k.x k.y m.x m.y)
          (λ k l. less_than_both k.x k.y s.x s.y m.x m.y l less) sent h.earlier) (λ some. less);
      totals = λ x y.
          let before = h.totals x y in
          let all = total_sent x y sent s in
          let more = net_more x y marks i d lt in
          omega (arith, ints, before, all, more);
      later = λ j e le far.
          let o = order i j e (omega (arith, le)) far in
          let same : get_or marks i e ≡ m = same_default marks i e d lt in
          rw same at o;
      low = let step = change_low m.is_plus in omega (arith, ints, step);
      high = let step = change_high m.is_plus in omega (arith, ints, step);
    }

pub summed_step : (marks : List Mark) (i : ℕ) (sent more : List Corner) (s t : Sum) (d : Mark) → AreInOrder marks
    → AreSummed marks i sent s → i < length marks → Steps s (get_or marks i d) t more
    → AreSummed marks (i + 1) (sent ++ more) t
summed_step marks i sent more s t d order h lt steps = elim steps [
  | inl same ↦
      let all : sent ++ more ≡ sent = ap (λ (ls : List Corner). sent ++ ls) same.1.0 ∙ append-nil sent in
      rw (all, same.1.1) (summed_same marks i sent s d h lt same.0)
  | inr next ↦
      rw (next.1.0, next.1.1) (summed_next marks i sent s d order h lt next.0)
]

-- before the first mark the sum is 0
pub summed_none : (marks : List Mark) (d : Mark) → AreInOrder marks
    → AreSummed marks 0 [] (record { x = (get_or marks 0 d).x; y = (get_or marks 0 d).y; change = pos 0 })
summed_none marks d order = record {
  rising = λ i j e lt far. absurd (omega (arith, far));
  nonzero = All-nil (λ k. k.change ≢ pos 0);
  earlier = All-nil (λ k. IsLess k.x k.y (get_or marks 0 d).x (get_or marks 0 d).y);
  totals = λ x y.
      let none = cond_same (int_eq (get_or marks 0 d).y y && int_eq (get_or marks 0 d).x x) (pos 0) in
      omega (arith, ints, none);
  later = λ j e le far. first_before marks j d e order far;
  low = omega (arith, ints);
  high = omega (arith, ints);
}

-- with the corner at the last point, all are sent
pub summed_all : (marks : List Mark) (i : ℕ) (sent : List Corner) (s : Sum) → AreSummed marks i sent s
    → length marks ≤ i
    → AreTotals marks (sent ++ corners_of_sum s)
unfolding corner_of
summed_all marks i sent s h over = record {
  rising = rising_sent sent s h.rising h.earlier;
  nonzero = all_sent (λ k. k.change ≢ pos 0) sent s h.nonzero (λ some. some);
  totals = λ x y. total_sent x y sent s ∙ (h.totals x y ∙ ap (net x y) (take_all i marks over));
}

pub totals_none : (marks : List Mark) → length marks ≤ 0 → AreTotals marks []
totals_none [] h = record {
  rising = λ i j e lt far. absurd (omega (arith, far));
  nonzero = All-nil (λ k. k.change ≢ pos 0);
  totals = λ x y. refl;
}
totals_none (m ∷ ms) h = absurd (omega (arith, h))

fits_between : (z : ℤ) → negsuc (2 ^ 65) ≤ℤ z → z ≤ℤ pos (2 ^ 65) → FitsSigned w128 z
fits_between (pos n) low high = record { sfits = omega (arith, ints, high) }
fits_between (negsuc n) low high = record { sfits = omega (arith, ints, low) }

-- one more change still fits
pub change_more : (i : ℕ) (c : ℤ) (t : Bool) → (pos 0 -ℤ pos i) ≤ℤ c → c ≤ℤ pos i → i < 2 ^ 64
    → FitsSigned w128 (c +ℤ cond t (pos 1) (negsuc 0))
change_more i c t low high lt =
    let least = change_low t in
    let most = change_high t in
    fits_between (c +ℤ cond t (pos 1) (negsuc 0)) (omega (arith, ints, low, least, lt)) (omega (
      arith,
      ints,
      high,
      most,
      lt,
    ))
