-- Marks in order.
use Rattle.std.proofs.Common.{◌≡◌, ℕ, ◌+◌, ◌<◌, ◌≤◌, false, List, length, get_or, zero, suc, ◌-◌, ℤ, ◌<ℤ◌, ◌≤ℤ◌, refl}
use Rattle.std.proofs.Common.{arith}
use Rattle.std.specs.Ordering.{int_cmp, is_lt, ordering_then}
use Rattle.std.specs.declared.cmp.Ordering.{Ordering}
use Rattle.std.specs.declared.cmp.Ordering.TheVariants.{Less, Equal, Greater}
use Rattle.std.proofs.lemmas.Cmp.{int_ranked}
use Rattle.std.proofs.lemmas.Int.{ints}
use Rattle.lvl_corners.specs.declared.mark.Mark.{Mark}
use Rattle.lvl_corners.specs.inside.Marks.{IsNoLater, AreInOrder}

second_by : (a b : ℤ) (o : Ordering) → o ≡ int_cmp a b → is_lt o ≡ false → b ≤ℤ a
second_by a b Less e h = cc
second_by a b Equal e h = let same : a ≡ b = int_ranked a b Equal e in omega (arith, ints, same)
second_by a b Greater e h = let lt : b <ℤ a = int_ranked a b Greater e in omega (arith, ints, lt)

first_by : (a b c d : ℤ) (o : Ordering) → o ≡ int_cmp a b → is_lt (ordering_then o (int_cmp c d)) ≡ false
    → (b ≤ℤ a) × (b ≡ a → d ≤ℤ c)
first_by a b c d Less e h = cc
first_by a b c d Equal e h =
    let same : a ≡ b = int_ranked a b Equal e in
    (omega (arith, ints, same), λ k. second_by c d (int_cmp c d) refl h)
first_by a b c d Greater e h =
    let lt : b <ℤ a = int_ranked a b Greater e in
    (omega (arith, ints, lt), λ k. absurd (omega (arith, ints, lt, k)))

-- a mark whose key isn't less than that of another isn't before it
no_later : (m n : Mark) → is_lt (ordering_then (int_cmp n.x m.x) (int_cmp n.y m.y)) ≡ false → IsNoLater m n
no_later m n h = first_by n.x m.x n.y m.y (int_cmp n.x m.x) refl h

trans : (a b c : Mark) → IsNoLater a b → IsNoLater b c → IsNoLater a c
trans a b c h k = (
  omega (arith, ints, h.0, k.0),
  λ e.
      let left : a.x ≡ b.x = omega (arith, ints, h.0, k.0, e) in
      let right : b.x ≡ c.x = omega (arith, ints, left, e) in
      omega (arith, ints, h.1 left, k.1 right),
)

-- an order that holds between consecutive items holds between all
pairs_by : (ms : List Mark) (n i j : ℕ) (d : Mark)
    → ((k : ℕ) → k + 1 < length ms → IsNoLater (get_or ms k d) (get_or ms (k + 1) d)) → j ≡ i + n + 1 → j < length ms
    → IsNoLater (get_or ms i d) (get_or ms j d)
pairs_by ms zero i j d next at lt =
    let e : j ≡ i + 1 = omega arith in
    rw e (next i (omega arith))
pairs_by ms (suc n) i j d next at lt =
    let e : j ≡ (i + n + 1) + 1 = omega arith in
    let before : IsNoLater (get_or ms i d) (get_or ms (i + n + 1) d) = pairs_by ms n i (i + n + 1) d next refl
    (omega arith) in
    rw e (trans (get_or ms i d) (get_or ms (i + n + 1) d) (get_or ms ((i + n + 1) + 1) d) before
    (next (i + n + 1) (omega arith)))

pub in_order : (ms : List Mark) → ((k : ℕ) (d : Mark) → 0 ≤ k → k + 1 < length ms
    → is_lt (ordering_then (int_cmp (get_or ms (k + 1) d).x (get_or ms k d).x)
    (int_cmp (get_or ms (k + 1) d).y (get_or ms k d).y)) ≡ false) → AreInOrder ms
in_order ms next i j d lt far =
    pairs_by ms (j - i - 1) i j d (λ k short. no_later (get_or ms k d) (get_or ms (k + 1) d)
    (next k d (omega arith) short)) (omega arith) far
