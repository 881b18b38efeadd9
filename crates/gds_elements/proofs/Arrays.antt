-- The places of an array whose points fit in 32 bits fit in 64 bits.
use Rattle.std.proofs.Common.{◌≡◌, ℕ, ◌-◌, ◌*◌, ◌^◌, ◌<◌, ◌≤◌, ℤ, pos, negsuc, ◌+ℤ◌, ◌-ℤ◌, ◌*ℤ◌, All, refl, sym, ap}
use Rattle.std.proofs.Common.{◌∙◌, arith}
use Rattle.std.specs.Prelude.{unsigned_abs, FitsSigned}
use Rattle.std.specs.Int.{w32, w64}
use Rattle.std.specs.Int.RustNames.{int_div, int_rem}
use Rattle.std.proofs.Math.Nat.{mul-le-mul_left}
use Rattle.std.proofs.lemmas.Int.{ints, quot-rem, unsigned_abs-mul, fits_signed_from_abs}
use Rattle.lvl_grid.specs.declared.point.Point.{Point}
use Rattle.lvl_grid.specs.Turn.{FitsPoint, shifted}
use Rattle.lvl_names.specs.Shifts.{steps, lattice, IsLattice}
use Rattle.lvl_names.specs.inside.Keeping.{StaysWithin, HasFarCorner}
use Rattle.lvl_names.proofs.Lattices.{far_corner, corners_moved}
use Rattle.gds_elements.specs.Values.{IsNarrow}
use Rattle.gds_elements.specs.Meaning.{step}
use Rattle.gds_elements.specs.Rules.{IsDivided}

pub record IsSmall (z : ℤ) : Type 0 where
  pub small : unsigned_abs z ≤ 2 ^ 32

add_none : (x z : ℤ) → x +ℤ pos 0 ≡ z → x ≡ z
add_none x z e = omega (arith, ints, e)

-- an exact quotient times its divisor
divided_abs : (z : ℤ) (m : ℕ) → int_rem z (pos m) ≡ pos 0 → unsigned_abs (int_div z (pos m)) * m ≡ unsigned_abs z
divided_abs z m e =
    let q : int_div z (pos m) *ℤ pos m +ℤ pos 0 ≡ z = ap (λ r. int_div z (pos m) *ℤ pos m +ℤ r) (sym e)
    ∙ quot-rem z (pos m) in
    sym (unsigned_abs-mul (int_div z (pos m)) (pos m)) ∙ ap unsigned_abs (add_none (int_div z (pos m) *ℤ pos m) z q)

-- a number of steps up to m leads no farther than m steps
small_steps : (i m : ℕ) (a z : ℤ) → i ≤ m → unsigned_abs a * m ≡ unsigned_abs z → IsSmall z → IsSmall (pos i *ℤ a)
small_steps i m a z h e s =
    let k : unsigned_abs a * i ≤ unsigned_abs a * m = mul-le-mul_left (unsigned_abs a) h in
    record { small = omega (arith, k, e, s.small, unsigned_abs-mul (pos i) a) }

distance_abs : (p q d : ℤ) → FitsSigned w32 p → FitsSigned w32 q → q -ℤ p ≡ d → unsigned_abs d ≤ 2 ^ 32
distance_abs p q (pos d) f g e = omega (arith, ints, f, g, e)
distance_abs p q (negsuc d) f g e = omega (arith, ints, f, g, e)

distance_small : (p q : ℤ) → FitsSigned w32 p → FitsSigned w32 q → IsSmall (q -ℤ p)
distance_small p q f g = record { small = distance_abs p q (q -ℤ p) f g refl }

fits_small : (z : ℤ) → IsSmall z → FitsSigned w64 z
fits_small z s = fits_signed_from_abs w64 z (omega (arith, s.small))

fits_two : (x y : ℤ) → IsSmall x → IsSmall y → FitsSigned w64 (x +ℤ y)
fits_two (pos x) (pos y) s t = omega (arith, ints, s.small, t.small)
fits_two (pos x) (negsuc y) s t = omega (arith, ints, s.small, t.small)
fits_two (negsuc x) (pos y) s t = omega (arith, ints, s.small, t.small)
fits_two (negsuc x) (negsuc y) s t = omega (arith, ints, s.small, t.small)

fits_three : (x y t : ℤ) → IsSmall x → IsSmall y → FitsSigned w32 t → FitsSigned w64 ((x +ℤ y) +ℤ t)
fits_three (pos x) (pos y) t s u f = omega (arith, ints, s.small, u.small, f)
fits_three (pos x) (negsuc y) t s u f = omega (arith, ints, s.small, u.small, f)
fits_three (negsuc x) (pos y) t s u f = omega (arith, ints, s.small, u.small, f)
fits_three (negsuc x) (negsuc y) t s u f = omega (arith, ints, s.small, u.small, f)

wider : (z : ℤ) → FitsSigned w32 z → FitsSigned w64 z
wider z f = omega (arith, ints, f)

stays : (a y b z : ℤ) (i m j n : ℕ) → i ≤ m → j ≤ n → unsigned_abs a * m ≡ unsigned_abs y
    → unsigned_abs b * n ≡ unsigned_abs z → IsSmall y → IsSmall z → StaysWithin a i b j
stays a y b z i m j n hi hj e f s t =
    let x = small_steps i m a y hi e s in
    let u = small_steps j n b z hj f t in
    record { across = fits_small _ x; up = fits_small _ u; both = fits_two _ _ x u }

-- an array, by its first place and the points to which its columns and rows lead
module _ (o p q : Point) (m n : ℕ) (no : IsNarrow o) (np : IsNarrow p) (nq : IsNarrow q) (dp : IsDivided o p m)
    (dq : IsDivided o q n)
    (some_columns : 0 < m) (some_rows : 0 < n) (few_columns : m < 32768) (few_rows : n < 32768) where
  pub array_corner : HasFarCorner (step o p m) m (step o q n) n
  array_corner = record {
    counts = record {
      columns = some_columns;
      rows = some_rows;
      few = let k : m * n ≤ m * 32768 = mul-le-mul_left m (omega (arith, few_rows)) in omega (arith, few_columns, k);
    };
    xs = stays _ (p.x -ℤ o.x) _ (q.x -ℤ o.x) (m - 1) m (n - 1) n (omega arith) (omega arith) (divided_abs _ m dp.0)
        (divided_abs _ n dq.0) (distance_small o.x p.x no.x_fits np.x_fits)
        (distance_small o.x q.x no.x_fits nq.x_fits);
    ys = stays _ (p.y -ℤ o.y) _ (q.y -ℤ o.y) (m - 1) m (n - 1) n (omega arith) (omega arith) (divided_abs _ m dp.1)
        (divided_abs _ n dq.1) (distance_small o.y p.y no.y_fits np.y_fits)
        (distance_small o.y q.y no.y_fits nq.y_fits);
  }

  pub array_lattice : IsLattice (step o p m) m (step o q n) n
  array_lattice = (far_corner (step o p m) m (step o q n) n).0 array_corner

  place_fits : (i j : ℕ) → i ≤ m → j ≤ n → FitsPoint (shifted o (steps (step o p m) i (step o q n) j))
  place_fits i j hi hj = record {
    x_fits = fits_three _ _ o.x (small_steps i m _ (p.x -ℤ o.x) hi (divided_abs _ m dp.0)
        (distance_small o.x p.x no.x_fits np.x_fits)) (small_steps j n _ (q.x -ℤ o.x) hj (divided_abs _ n dq.0)
        (distance_small o.x q.x no.x_fits nq.x_fits)) no.x_fits;
    y_fits = fits_three _ _ o.y (small_steps i m _ (p.y -ℤ o.y) hi (divided_abs _ m dp.1)
        (distance_small o.y p.y no.y_fits np.y_fits)) (small_steps j n _ (q.y -ℤ o.y) hj (divided_abs _ n dq.1)
        (distance_small o.y q.y no.y_fits nq.y_fits)) no.y_fits;
  }

  pub array_places : All (λ e. FitsPoint (shifted o e)) (lattice (step o p m) m (step o q n) n)
  array_places =
      (corners_moved o (step o p m) m (step o q n) n
      (record { x_fits = wider o.x no.x_fits; y_fits = wider o.y no.y_fits }) array_corner).0 (
        place_fits (m - 1) 0 (omega arith) (omega arith),
        place_fits 0 (n - 1) (omega arith) (omega arith),
        place_fits
            (m - 1) (n - 1) (omega arith) (omega arith),
      )
