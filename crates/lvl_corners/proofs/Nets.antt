-- Sums of marks.
use Rattle.std.proofs.Common.{◌≡◌, ℕ, ◌+◌, ◌<◌, Bool, true, false, ◌&&◌, not, cond, List, [], ◌∷◌, ◌++◌, length, get_or}
use Rattle.std.proofs.Common.{take, drop, filter, count_by, ℤ, pos, negsuc, ◌+ℤ◌, ◌-ℤ◌, All, refl, ◌∙◌, ap, arith}
use Rattle.std.specs.List.Sorted.{IsPermutation}
use Rattle.std.specs.Ordering.{int_eq}
use Rattle.std.proofs.lemmas.Int.{ints}
use Rattle.std.proofs.lemmas.Bool.{and_parts}
use Rattle.lvl_corners.proofs.IntTests.{eq_is}
use Rattle.std.proofs.lemmas.List.{take_more, drop_more}
use Rattle.std.proofs.lemmas.List.Elements.{All-head, All-tail}
use Rattle.std.proofs.lemmas.List.Sums.{sum_by-append, sum_by-cons}
use Rattle.std.proofs.lemmas.List.Sorted.{sum_by-IsPermutation}
use Rattle.lvl_corners.specs.declared.mark.Mark.{Mark}
use Rattle.lvl_corners.specs.Corners.{bit}
use Rattle.lvl_corners.specs.inside.Marks.{is_at, pluses, minuses, net, change_of, signed, interval_step, row_step}
use Rattle.lvl_corners.specs.inside.Marks.{band_net}

one_more : (p n p' n' : ℕ) (t u : Bool) → p' ≡ p + cond (t && u) 1 0 → n' ≡ n + cond (t && not u) 1 0
    → pos p' -ℤ pos n' ≡ (pos p -ℤ pos n) +ℤ cond t (cond u (pos 1) (negsuc 0)) (pos 0)
one_more p n p' n' true true h k = omega (arith, ints, h, k)
one_more p n p' n' true false h k = omega (arith, ints, h, k)
one_more p n p' n' false u h k = omega (arith, ints, h, k)

pluses_push : (x y : ℤ) (ms : List Mark) (m : Mark)
    → pluses x y (ms ++ m ∷ []) ≡ pluses x y ms + cond (is_at x y m && m.is_plus) 1 0
pluses_push x y ms m = let all = sum_by-append (λ m. cond (is_at x y m && m.is_plus) 1 0) ms (m ∷ []) in omega
    (arith, all)

minuses_push : (x y : ℤ) (ms : List Mark) (m : Mark)
    → minuses x y (ms ++ m ∷ []) ≡ minuses x y ms + cond (is_at x y m && not m.is_plus) 1 0
minuses_push x y ms m =
    let all = sum_by-append (λ m. cond (is_at x y m && not m.is_plus) 1 0) ms (m ∷ []) in omega (arith, all)

-- one more mark adds its change at its point
pub net_push : (x y : ℤ) (ms : List Mark) (m : Mark)
    → net x y (ms ++ m ∷ []) ≡ net x y ms +ℤ cond (is_at x y m) (change_of m) (pos 0)
net_push x y ms m =
    one_more (pluses x y ms) (minuses x y ms) (pluses x y (ms ++ m ∷ [])) (minuses x y (ms ++ m ∷ [])) (is_at x y m)
    m.is_plus (pluses_push x y ms m) (minuses_push x y ms m)

pub net_more : (x y : ℤ) (ms : List Mark) (i : ℕ) (d : Mark) → i < length ms
    → net x y (take (i + 1) ms) ≡ net x y (take i ms) +ℤ cond (is_at x y (get_or ms i d)) (change_of (get_or ms i d))
    (pos 0)
net_more x y ms i d lt = ap (net x y) (take_more ms i d lt) ∙ net_push x y (take i ms) (get_or ms i d)

pub net_append : (x y : ℤ) (ms ns : List Mark) → net x y (ms ++ ns) ≡ net x y ms +ℤ net x y ns
net_append x y ms ns =
    let plus = sum_by-append (λ m. cond (is_at x y m && m.is_plus) 1 0) ms ns in
    let minus = sum_by-append (λ m. cond (is_at x y m && not m.is_plus) 1 0) ms ns in
    omega (arith, ints, plus, minus)

-- marks at other points add nothing
pub net_none : (x y : ℤ) (ms : List Mark) → All (λ m. is_at x y m ≡ false) ms → net x y ms ≡ pos 0
net_none x y [] h = refl
net_none x y (m ∷ ms) h =
    let t : is_at x y m ≡ false = All-head (λ m. is_at x y m ≡ false) m ms h in
    rw t (net_none x y ms (All-tail (λ m. is_at x y m ≡ false) m ms h))

pub net_permutation : (x y : ℤ) (ms ns : List Mark) → IsPermutation ms ns → net x y ns ≡ net x y ms
net_permutation x y ms ns h =
    let plus = sum_by-IsPermutation (λ m. cond (is_at x y m && m.is_plus) 1 0) ms ns h in
    let minus = sum_by-IsPermutation (λ m. cond (is_at x y m && not m.is_plus) 1 0) ms ns h in
    rw (plus, minus) refl

both_ends : (f p q r : Bool)
    → cond (r && p) (cond f (pos 1) (negsuc 0)) (pos 0) +ℤ cond (r && q) (cond (not f) (pos 1) (negsuc 0)) (pos 0)
    ≡ cond r (signed f (bit p -ℤ bit q)) (pos 0)
both_ends f p q false = refl
both_ends true true true true = refl
both_ends true true false true = refl
both_ends true false true true = refl
both_ends true false false true = refl
both_ends false true true true = refl
both_ends false true false true = refl
both_ends false false true true = refl
both_ends false false false true = refl

-- both ends of an interval in a row
pub interval_net : (x z : ℤ) (ms : List Mark) (y left right : ℤ) (first : Bool)
    → net x z ((ms ++ record { x = left; y = y; is_plus = first } ∷ []) ++ record {
      x = right;
      y = y;
      is_plus = not
          first;
    } ∷ [])
    ≡ net x z ms +ℤ cond (int_eq y z) (signed first (interval_step x (left, right))) (pos 0)
interval_net x z ms y left right first =
    let m : Mark = record { x = left; y = y; is_plus = first } in
    let n : Mark = record { x = right; y = y; is_plus = not first } in
    let one = net_push x z ms m in
    let two = net_push x z (ms ++ m ∷ []) n in
    let ends = both_ends first (int_eq left x) (int_eq right x) (int_eq y z) in
    omega (arith, ints, one, two, ends)

signed_more : (f t : Bool) (a b : ℤ)
    → cond t (signed f (a +ℤ b)) (pos 0) ≡ cond t (signed f b) (pos 0) +ℤ cond t (signed f a) (pos 0)
signed_more f false a b = refl
signed_more true true a b = omega (arith, ints)
signed_more false true a b = omega (arith, ints)

-- the intervals of a row so far, and those still to come
pub row_more : (x y z total : ℤ) (f : Bool) (old new : List Mark) (is : List (ℤ × ℤ)) (i : ℕ) (d : ℤ × ℤ)
    → i < length is
    → net x z new ≡ net x z old +ℤ cond (int_eq y z) (signed f (interval_step x (get_or is i d))) (pos 0)
    → net x z old +ℤ cond (int_eq y z) (signed f (row_step x (drop i is))) (pos 0) ≡ total
    → net x z new +ℤ cond (int_eq y z) (signed f (row_step x (drop (i + 1) is))) (pos 0) ≡ total
row_more x y z total f old new is i d lt more before =
    let rest = row_step x (drop (i + 1) is) in
    let split : row_step x (drop i is) ≡ rest +ℤ interval_step x (get_or is i d) = ap (row_step x) (drop_more is i d
    lt) in
    let parts = ap (λ (s : ℤ). cond (int_eq y z) (signed f s) (pos 0)) split
    ∙ signed_more f (int_eq y z) rest (interval_step x (get_or is i d)) in
    omega (arith, ints, more, before, parts)

pub row_none : (f t : Bool) → cond t (signed f (pos 0)) (pos 0) ≡ pos 0
row_none f false = refl
row_none true true = refl
row_none false true = refl

minus_cond : (a d : ℤ) (t : Bool) → a +ℤ cond t (pos 0 -ℤ d) (pos 0) ≡ a -ℤ cond t d (pos 0)
minus_cond a d true = omega (arith, ints)
minus_cond a d false = omega (arith, ints)

-- a band adds its intervals in the row where it begins, and their negatives in the one where it ends
pub both_rows : (x y from to : ℤ) (old mid new : List Mark) (is : List (ℤ × ℤ))
    → net x y mid ≡ net x y old +ℤ cond (int_eq from y) (row_step x is) (pos 0)
    → net x y new ≡ net x y mid +ℤ cond (int_eq to y) (pos 0 -ℤ row_step x is) (pos 0)
    → net x y new ≡ net x y old +ℤ band_net x y (record { from = from; to = to; value = is })
both_rows x y from to old mid new is h k =
    let l = k ∙ minus_cond (net x y mid) (row_step x is) (int_eq to y) in
    omega (arith, ints, h, l)

none_kept : (t : Bool) (n : ℕ) → n ≡ cond t n n
none_kept true n = refl
none_kept false n = refl

kept_more : (t u h : Bool) (one all few all' few' : ℕ) → all' ≡ one + all → few' ≡ cond t (one + few) few
    → few ≡ cond u all 0
    → (h ≡ true → t ≡ u) → (h ≡ false → one ≡ 0) → few' ≡ cond u all' 0
kept_more true true h one all few all' few' e f g same none = omega (arith, e, f, g)
kept_more false false h one all few all' few' e f g same none = omega (arith, f, g)
kept_more true false true one all few all' few' e f g same none = let no = same refl in cc
kept_more true false false one all few all' few' e f g same none = let no = none refl in omega (arith, f, g, no)
kept_more false true true one all few all' few' e f g same none = let no = same refl in cc
kept_more false true false one all few all' few' e f g same none = let no = none refl in omega (arith, e, f, g, no)

kept_first : (t : Bool) (count : List Mark → ℕ) (m : Mark) (ms : List Mark) (one : ℕ) → count (m ∷ ms) ≡ one + count ms
    → count (cond t (m ∷ ms) ms) ≡ cond t (one + count ms) (count ms)
kept_first true count m ms one h = h
kept_first false count m ms one h = refl

filtered : (x y : ℤ) (test : ℤ → ℤ → Bool) (q : Mark → Bool) (ms : List Mark)
    → count_by (λ m. is_at x y m && q m) (filter (λ m. test m.x m.y) ms) ≡ cond (test x y) (count_by (λ m. is_at x y m && q
    m) ms) 0
filtered x y test q [] = none_kept (test x y) 0
filtered x y test q (m ∷ ms) =
    let one : ℕ = cond (is_at x y m && q m) 1 0 in
    let count : List Mark → ℕ = count_by (λ m. is_at x y m && q m) in
    let rest : List Mark = filter (λ m. test m.x m.y) ms in
    kept_more (test m.x m.y) (test x y) (is_at x y m) one (count ms) (count rest) (count (m ∷ ms))
    (count (filter (λ m. test m.x m.y) (m ∷ ms)))
    (sum_by-cons (λ m. cond (is_at x y m && q m) 1 0) m ms)
    (kept_first (test m.x m.y) count m rest one (sum_by-cons (λ m. cond (is_at x y m && q m) 1 0) m rest))
    (filtered x y test q ms)
    (λ here.
    let both = and_parts (int_eq m.y y) (int_eq m.x x) here in
    ap (λ (u : ℤ). test u m.y) (eq_is m.x x both.1) ∙ ap (test x) (eq_is m.y y both.0))
    (λ apart. rw apart refl)

both_kept : (t : Bool) (p n : ℕ) → pos (cond t p 0) -ℤ pos (cond t n 0) ≡ cond t (pos p -ℤ pos n) (pos 0)
both_kept true p n = refl
both_kept false p n = refl

-- the marks for whose points a test is true
pub net_filter : (x y : ℤ) (test : ℤ → ℤ → Bool) (ms : List Mark)
    → net x y (filter (λ m. test m.x m.y) ms) ≡ cond (test x y) (net x y ms) (pos 0)
net_filter x y test ms =
    let plus = filtered x y test (λ m. m.is_plus) ms in
    let minus = filtered x y test (λ m. not m.is_plus) ms in
    rw (plus, minus) (both_kept (test x y) (pluses x y ms) (minuses x y ms))

-- two numbers that are equal where a test is true
pub cond_same : (t : Bool) (a b : ℤ) → (t ≡ true → a ≡ b) → cond t a (pos 0) ≡ cond t b (pos 0)
cond_same true a b same = same refl
cond_same false a b same = refl
