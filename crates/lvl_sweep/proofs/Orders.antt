-- Edges in the order in which a sweep meets them.
use Rattle.std.proofs.Common.{◌≡◌, ℕ, ◌+◌, ◌<◌, ◌≤◌, false, List, length, get_or, zero, suc, ◌-◌, ℤ, ◌<ℤ◌, ◌≤ℤ◌, refl}
use Rattle.std.proofs.Common.{arith}
use Rattle.std.specs.Ordering.{int_cmp, is_lt, ordering_then}
use Rattle.std.specs.declared.cmp.Ordering.{Ordering}
use Rattle.std.specs.declared.cmp.Ordering.TheVariants.{Less, Equal, Greater}
use Rattle.std.proofs.lemmas.Cmp.{int_ranked}
use Rattle.std.proofs.lemmas.Int.{ints}
use Rattle.lvl_sweep.specs.declared.edge.Edge.{Edge}
use Rattle.lvl_sweep.specs.inside.Alive.{IsNoLater, AreInOrder}

pub second_by : (a b : ℤ) (o : Ordering) → o ≡ int_cmp a b → is_lt o ≡ false → b ≤ℤ a
second_by a b Less e h = cc
second_by a b Equal e h = let same : a ≡ b = int_ranked a b Equal e in omega (arith, ints, same)
second_by a b Greater e h = let lt : b <ℤ a = int_ranked a b Greater e in omega (arith, ints, lt)

first_by : (a b c d : ℤ) (o : Ordering) → o ≡ int_cmp a b → is_lt (ordering_then o (int_cmp c d)) ≡ false
    → (b ≤ℤ a) × (b ≡ a → d ≤ℤ c)
first_by a b c d Less e h = cc
first_by a b c d Equal e h =
    let same : a ≡ b = int_ranked a b Equal e in
    (omega (arith, ints, same), λ k. second_by c d (int_cmp c d) refl h)
first_by a b c d Greater e h =
    let lt : b <ℤ a = int_ranked a b Greater e in
    (omega (arith, ints, lt), λ k. absurd (omega (arith, ints, lt, k)))

-- an edge whose key isn't less than that of another isn't before it
pub no_later : (d e : Edge) → is_lt (ordering_then (int_cmp e.low d.low) (int_cmp e.x d.x)) ≡ false → IsNoLater d e
no_later d e h = first_by e.low d.low e.x d.x (int_cmp e.low d.low) refl h

trans : (a b c : Edge) → IsNoLater a b → IsNoLater b c → IsNoLater a c
trans a b c h k = (
  omega (arith, ints, h.0, k.0),
  λ e.
      let left : a.low ≡ b.low = omega (arith, ints, h.0, k.0, e) in
      let right : b.low ≡ c.low = omega (arith, ints, left, e) in
      omega (arith, ints, h.1 left, k.1 right),
)

-- an order that holds between consecutive items holds between all
pairs_by : (es : List Edge) (n i j : ℕ) (d : Edge)
    → ((k : ℕ) → k + 1 < length es → IsNoLater (get_or es k d) (get_or es (k + 1) d)) → j ≡ i + n + 1 → j < length es
    → IsNoLater (get_or es i d) (get_or es j d)
pairs_by es zero i j d next at lt =
    let e : j ≡ i + 1 = omega arith in
    rw e (next i (omega arith))
pairs_by es (suc n) i j d next at lt =
    let e : j ≡ (i + n + 1) + 1 = omega arith in
    let before : IsNoLater (get_or es i d) (get_or es (i + n + 1) d) = pairs_by es n i (i + n + 1) d next refl
    (omega arith) in
    rw e (trans (get_or es i d) (get_or es (i + n + 1) d) (get_or es ((i + n + 1) + 1) d) before
    (next (i + n + 1) (omega arith)))

pub in_order : (es : List Edge) → ((k : ℕ) (d : Edge) → 0 ≤ k → k + 1 < length es
    → is_lt (ordering_then (int_cmp (get_or es (k + 1) d).low (get_or es k d).low)
    (int_cmp (get_or es (k + 1) d).x (get_or es k d).x)) ≡ false) → AreInOrder es
in_order es next i j d lt far =
    pairs_by es (j - i - 1) i j d (λ k short. no_later (get_or es k d) (get_or es (k + 1) d)
    (next k d (omega arith) short)) (omega arith) far
