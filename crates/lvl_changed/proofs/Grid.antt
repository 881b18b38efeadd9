-- Lattices.
use Rattle.std.proofs.Common.{◌≡◌, ◌↔◌, ◌<◌, ◌≤◌, ◌+◌, ◌*◌, ◌/◌, ◌%◌, ℕ, ℤ, pos, neg_ℤ, ◌+ℤ◌, ◌*ℤ◌, Contains, length, get_or}
use Rattle.std.proofs.Common.{suc, refl, sym, ◌∙◌, arith, Bool, true, false}
use Rattle.std.proofs.lemmas.Int.{ints}
use Rattle.std.proofs.Math.Nat.{mul-le-mul_left, div-lt_iff_lt-mul}
use Rattle.std.proofs.lemmas.Nat.{mod-mul-add, div-mul-add}
use Rattle.std.proofs.lemmas.List.FromFn.{get_or-map-range_with_len}
use Rattle.std.proofs.lemmas.List.FromFn.{length-map-range_with_len}
use Rattle.lvl_grid.specs.declared.point.Point.{Point}
use Rattle.lvl_grid.specs.declared.map.Turn.{Turn}
use Rattle.lvl_grid.specs.declared.map.Turn.TheVariants.{R0, R90, R180, R270}
use Rattle.lvl_grid.specs.Turn.{turned, reflected}
use Rattle.lvl_grid.proofs.Composing.{same_point}
use Rattle.lvl_names.specs.Shifts.{steps, lattice}

-- e is on the lattice
abbrev pub OnLattice : Point → ℕ → Point → ℕ → Point → Type 0
OnLattice a m b n e = (i : ℕ) × (j : ℕ) × (i < m) × (j < n) × (steps a i b j ≡ e)

times_neg : (i : ℕ) (a : ℤ) → pos i *ℤ neg_ℤ a ≡ neg_ℤ (pos i *ℤ a)
times_neg i a = grind (arith, ints)

plus_swap : (i j : ℕ) (a b : ℤ) → (pos i *ℤ a) +ℤ (pos j *ℤ b) ≡ (pos j *ℤ b) +ℤ (pos i *ℤ a)
plus_swap i j a b = omega (arith, ints)

pub zero_times : (a : ℤ) → pos 0 *ℤ a ≡ pos 0
zero_times a = grind (arith, ints)

pub turned_steps : (t : Turn) (a : Point) (i : ℕ) (b : Point) (j : ℕ)
    → turned t (steps a i b j) ≡ steps (turned t a) i (turned t b) j
turned_steps R0 a i b j = refl
turned_steps R90 a i b j = same_point _ _ (omega (arith, ints, times_neg i a.y, times_neg j b.y)) refl
turned_steps R180 a i b j =
    same_point _ _ (omega (arith, ints, times_neg i a.x, times_neg j b.x))
    (omega (arith, ints, times_neg i a.y, times_neg j b.y))
turned_steps R270 a i b j = same_point _ _ refl (omega (arith, ints, times_neg i a.x, times_neg j b.x))

pub reflected_steps : (f : Bool) (a : Point) (i : ℕ) (b : Point) (j : ℕ)
    → reflected f (steps a i b j) ≡ steps (reflected f a) i (reflected f b) j
reflected_steps false a i b j = refl
reflected_steps true a i b j = same_point _ _ refl (omega (arith, ints, times_neg i a.y, times_neg j b.y))

place_in : (k m n : ℕ) → 0 < m → k < m * n → (k % m < m) × (k / m < n)
place_in k m n hm hk = (omega arith, (div-lt_iff_lt-mul hm).1 (omega arith))

-- a shift is in the list of a lattice if it is on the lattice
pub lattice_has : (a : Point) (m : ℕ) (b : Point) (n : ℕ) (e : Point) → 0 < m
    → Contains (lattice a m b n) e ↔ OnLattice a m b n e
lattice_has a m b n e some =
    let f : ℕ → Point = λ q. steps a (q % m) b (q / m) in
    let long : length (lattice a m b n) ≡ m * n = length-map-range_with_len f 0 (m * n) in (
      λ c.
          let low : c.0 < m * n = omega (arith, c.1, long) in
          let at = place_in c.0 m n some low in
          let is : get_or (lattice a m b n) c.0 e ≡ steps a (c.0 % m) b (c.0 / m) =
          get_or-map-range_with_len f 0 (m * n) c.0 c.0 e low (omega arith) in
          (c.0 % m, c.0 / m, at.0, at.1, sym is ∙ c.2),
      λ on.
          let i : ℕ = on.0 in
          let j : ℕ = on.1 in
          let above : suc j ≤ n = omega (arith, on.3) in
          let k : j * m + i < m * n = omega (arith, mul-le-mul_left m above, on.2) in
          let is : get_or (lattice a m b n) (j * m + i) e ≡ steps a i b j =
          get_or-map-range_with_len f 0 (m * n) (j * m + i) (j * m + i) e k (omega arith)
          ∙ rw (mod-mul-add j m i on.2, div-mul-add j m i on.2) refl in
          (j * m + i, omega (arith, k, long), is ∙ on.4),
    )

-- the other order of the steps
pub swapped : (a : Point) (m : ℕ) (b : Point) (n : ℕ) (e : Point) → OnLattice a m b n e → OnLattice b n a m e
swapped a m b n e on =
    (on.1, on.0, on.3, on.2, same_point _ _ (plus_swap on.1 on.0 b.x a.x) (plus_swap on.1 on.0 b.y a.y) ∙ on.4)
