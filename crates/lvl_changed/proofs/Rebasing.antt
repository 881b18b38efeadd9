-- Lattices from another of their places on.
use Rattle.std.proofs.Common.{◌≡◌, ◌<◌, ◌-◌, ◌+◌, ℕ, ℤ, pos, neg_ℤ, ◌+ℤ◌, ◌*ℤ◌, List, Contains, refl, sym, ap, ◌∙◌, subst}
use Rattle.std.proofs.Common.{arith}
use Rattle.std.proofs.lemmas.Int.{ints}
use Rattle.lvl_grid.specs.declared.point.Point.{Point}
use Rattle.lvl_grid.specs.Turn.{shifted}
use Rattle.lvl_grid.proofs.Composing.{same_point}
use Rattle.lvl_names.specs.Shifts.{steps, lattice}
use Rattle.lvl_changed.specs.declared.arrays.Array.{Array}
use Rattle.lvl_changed.specs.inside.Arrays.{IsRebased}
use Rattle.lvl_changed.specs.inside.Rows.{IsSameLine, scaled}
use Rattle.lvl_changed.specs.inside.Shifts.{AreMovedBy}
use Rattle.lvl_changed.proofs.Grid.{lattice_has, swapped}
use Rattle.lvl_changed.proofs.Sums.{zero_point}

from_zero : (p : Point) → p ≡ shifted zero_point p
from_zero p = same_point _ _ (omega (arith, ints)) (omega (arith, ints))

by_zero : (p : Point) → p ≡ shifted p zero_point
by_zero p = same_point _ _ (omega (arith, ints)) (omega (arith, ints))

-- an array is itself from its first place on
pub not_moved : (a : Array) → IsRebased a a
not_moved a = (
  zero_point,
  ap (λ (p : Point). record {
    cell = a.cell;
    by = record { flip = a.by.flip; turn = a.by.turn; at = p };
    shifts = a.shifts;
  }) (by_zero a.by.at),
  λ e. (
    λ h. (e, h, from_zero e),
    λ h. subst (Contains a.shifts) (sym (h.2 ∙ sym (from_zero h.0))) h.1,
  ),
)

-- a line from its first place on
pub line_same : (a : Point) (n : ℕ) → IsSameLine a n zero_point a
line_same a n = record {
  to = λ i low. (i, low, from_zero (scaled a i));
  from = λ k low. (k, low, from_zero (scaled a k));
}

there_and_back : (i k : ℕ) (a : ℤ) → pos i *ℤ a ≡ (pos k *ℤ neg_ℤ a) +ℤ (pos (i + k) *ℤ a)
there_and_back i k a = grind (arith, ints)

-- a line from its last place on
pub line_back : (a d b : Point) (n : ℕ) → d ≡ scaled a (n - 1) → b ≡ record { x = neg_ℤ a.x; y = neg_ℤ a.y }
    → IsSameLine a n d b
line_back a d b n last back =
    let at : (i k : ℕ) → i + k ≡ n - 1 → scaled a i ≡ shifted d (scaled b k) =
    λ i k sum.
    subst (λ (q : Point). scaled a i ≡ shifted q (scaled b k)) (sym last)
    (subst (λ (q : Point). scaled a i ≡ shifted (scaled a (n - 1)) (scaled q k)) (sym back)
    (subst
    (λ m. scaled a i ≡ shifted (scaled a m) (scaled (record { x = neg_ℤ a.x; y = neg_ℤ a.y }) k)) sum
    (same_point _ _ (there_and_back i k a.x) (there_and_back i k a.y)))) in
    record {
      to = λ i low. (n - 1 - i, omega (arith, low), at i (n - 1 - i) (omega (arith, low)));
      from = λ k low. (n - 1 - k, omega (arith, low), at (n - 1 - k) k (omega (arith, low)));
    }

sum_of : (a b c d p q : Point) (i j k l : ℕ) → scaled a i ≡ shifted c (scaled p k) → scaled b j ≡ shifted d (scaled q l)
    → steps a i b j ≡ shifted (shifted d c) (steps p k q l)
sum_of a b c d p q i j k l x y =
    ap (λ z. shifted (scaled b j) z) x
    ∙ (ap (λ z. shifted z (shifted c (scaled p k))) y
    ∙ same_point _ _ (omega (arith, ints)) (omega (arith, ints)))

-- a lattice, by the places and the steps of its two lines
pub lattice_rebased : (shifts : List Point) (a b c d p q : Point) (m n : ℕ) → 0 < m → shifts ≡ lattice a m b n
    → IsSameLine a m c p → IsSameLine b n d q → AreMovedBy (shifted d c) shifts (lattice p m q n)
lattice_rebased shifts a b c d p q m n some is across up e = (
  λ h.
      let on = (lattice_has a m b n e some).0 (subst (λ es. Contains es e) is h) in
      let x = across.to on.0 on.2 in
      let y = up.to on.1 on.3 in
      let f : Point = steps p x.0 q y.0 in (
        f,
        (lattice_has p m q n f some).1 (x.0, y.0, x.1, y.1, refl),
        sym on.4 ∙ sum_of a b c d p q on.0 on.1 x.0 y.0 x.2 y.2,
      ),
  λ h.
      let on = (lattice_has p m q n h.0 some).0 h.1 in
      let x = across.from on.0 on.2 in
      let y = up.from on.1 on.3 in
      let at : steps a x.0 b y.0 ≡ e =
      sum_of a b c d p q x.0 y.0 on.0 on.1 x.2 y.2 ∙ (ap (shifted (shifted d c)) on.4 ∙ sym h.2) in
      subst (λ es. Contains es e) (sym is) ((lattice_has a m b n e some).1 (x.0, y.0, x.1, y.1, at)),
)

-- and with its steps in the other order
pub rebased_swapped : (shifts : List Point) (d p q : Point) (m n : ℕ) → 0 < m → 0 < n
    → AreMovedBy d shifts (lattice p m q n) → AreMovedBy d shifts (lattice q n p m)
rebased_swapped shifts d p q m n some more same e = (
  λ h.
      let to = (same e).0 h in (
        to.0,
        (lattice_has q n p m to.0 more).1 (swapped p m q n to.0 ((lattice_has p m q n to.0 some).0 to.1)),
        to.2,
      ),
  λ h.
      (same e).1 (
        h.0,
        (lattice_has p m q n h.0 some).1 (swapped q n p m h.0 ((lattice_has q n p m h.0 more).0 h.1)),
        h.2,
      ),
)
