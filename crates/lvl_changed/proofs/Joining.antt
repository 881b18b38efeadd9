-- Lattices whose rows follow one another.
use Rattle.std.proofs.Common.{◌≡◌, ◌<◌, ◌+◌, ◌*◌, ◌/◌, ◌%◌, ℕ, zero, suc, ℤ, pos, ◌+ℤ◌, ◌*ℤ◌, length, refl, sym, ap, ◌∙◌, arith}
use Rattle.std.proofs.lemmas.Int.{ints}
use Rattle.std.proofs.lemmas.Nat.{div-add-mod', mod-mul-add, div-mul-add}
use Rattle.std.proofs.Math.IntN.{suc_ℤ-*ℤ}
use Rattle.std.proofs.lemmas.List.FromFn.{fill_by_all, get_or-map-range_with_len, length-map-range_with_len}
use Rattle.lvl_grid.specs.declared.point.Point.{Point}
use Rattle.lvl_grid.proofs.Composing.{same_point}
use Rattle.lvl_names.specs.Shifts.{steps, lattice}

no_step : (a b : ℤ) → a ≡ a +ℤ (pos 0 *ℤ b)
no_step a b = grind (arith, ints)

sum_times : (n k : ℕ) (a : ℤ) → pos (n + k) *ℤ a ≡ (pos n *ℤ a) +ℤ (pos k *ℤ a)
sum_times n k a = grind (arith, ints)

regrouped : (x y z : ℤ) → x +ℤ (y +ℤ z) ≡ (x +ℤ y) +ℤ z
regrouped x y z = omega (arith, ints)

joined_step : (q m r : ℕ) (a : ℤ) → (pos r *ℤ a) +ℤ (pos q *ℤ (pos m *ℤ a)) ≡ pos (q * m + r) *ℤ a
joined_step zero m r a =
    let none : 0 * m + r ≡ r = omega arith in
    sym (no_step (pos r *ℤ a) (pos m *ℤ a)) ∙ ap (λ n. pos n *ℤ a) (sym none)
joined_step (suc q) m r a =
    let row : ℤ = pos m *ℤ a in
    let more : suc q * m + r ≡ q * m + r + m = omega arith in
    ap (λ (p : ℤ). (pos r *ℤ a) +ℤ p) (suc_ℤ-*ℤ (pos q) row)
    ∙ (regrouped (pos r *ℤ a) (pos q *ℤ row) row
    ∙ (ap (λ (p : ℤ). p +ℤ row) (joined_step q m r a)
    ∙ (sym (sum_times (q * m + r) m a) ∙ ap (λ n. pos n *ℤ a) (sym more))))

joined_steps : (a : Point) (q m r k : ℕ) (none : Point) → q * m + r ≡ k
    → steps a r (record { x = pos m *ℤ a.x; y = pos m *ℤ a.y }) q ≡ steps a k none 0
joined_steps a q m r k none sum =
    same_point _ _
    (joined_step q m r a.x ∙ (ap (λ n. pos n *ℤ a.x) sum ∙ no_step (pos k *ℤ a.x) none.x))
    (joined_step q m r a.y ∙ (ap (λ n. pos n *ℤ a.y) sum ∙ no_step (pos k *ℤ a.y) none.y))

-- they are one line
pub rows_joined : (a b none : Point) (m n : ℕ) → b ≡ record { x = pos m *ℤ a.x; y = pos m *ℤ a.y }
    → lattice a m b n ≡ lattice a (m * n) none 1
rows_joined a b none m n next =
    let f : ℕ → Point = λ q. steps a (q % m) b (q / m) in
    let long : length (lattice a m b n) ≡ m * n = length-map-range_with_len f 0 (m * n) in
    let g : ℕ → Point = λ q. steps a (q % (m * n)) none (q / (m * n)) in
    fill_by_all g (lattice a m b n) (m * n * 1) none (omega (arith, long))
    (λ k below.
    let low : k < m * n = omega (arith, below) in
    let plain : 0 * (m * n) + k ≡ k = omega arith in
    let within : k % (m * n) ≡ k = ap (λ i. i % (m * n)) (sym plain) ∙ mod-mul-add 0 (m * n) k low in
    let first : k / (m * n) ≡ 0 = ap (λ i. i / (m * n)) (sym plain) ∙ div-mul-add 0 (m * n) k low in
    get_or-map-range_with_len f 0 (m * n) k k none low (omega arith)
    ∙ (ap (λ (p : Point). steps a (k % m) p (k / m)) next
    ∙ (joined_steps a (k / m) m (k % m) k none (div-add-mod' k m)
    ∙ rw (within, first) refl)))
