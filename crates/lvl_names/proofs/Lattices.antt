-- All shifts of a lattice fit if those at its corners do.
use Rattle.std.proofs.Common.{◌≡◌, ℕ, suc, ◌+◌, ◌-◌, ◌*◌, ◌/◌, ◌%◌, ◌<◌, ◌≤◌, Bool, ◌&&◌, true, int_eq, List, [], ◌∷◌}
use Rattle.std.proofs.Common.{length, get_or, ℤ, pos, negsuc, ◌+ℤ◌, ◌*ℤ◌, ◌≤ℤ◌, ◌⊎◌, inl, inr, Option, Some, None}
use Rattle.std.proofs.Common.{is_some, IsTrue, SomeIff, ◌↔◌, All, refl, sym, ap, ◌∙◌, subst, ⊎_elim, arith, rules}
use Rattle.std.specs.List.{slice_get}
use Rattle.std.specs.Int.{w64, int_min, int_max}
use mir.Val.{SFits, to_z, of_z}
use Rattle.std.proofs.Math.Nat.{mul-le-mul_left, div-lt_iff_lt-mul}
use Rattle.std.proofs.lemmas.Int.{ints, clamps, to_z-of_z}
use Rattle.std.proofs.lemmas.Nat.{mod-mul-add, div-mul-add}
use Rattle.std.proofs.lemmas.Option.{slice_get-get_or, slice_get_past}
use Rattle.std.proofs.lemmas.List.FromFn.{get_or-map-range_with_len, length-map-range_with_len}
use Rattle.std.proofs.lemmas.List.Elements.{All-get_or}
use Rattle.lvl_grid.specs.declared.point.Point.{Point}
use Rattle.lvl_grid.specs.Turn.{FitsPoint, shifted}
use Rattle.lvl_grid.proofs.Composing.{same_point}
use Rattle.lvl_names.specs.Shifts.{IsBetween, steps, lattice, one_place, IsLattice, StartsAtZero}
use Rattle.lvl_names.specs.inside.Keeping.{StaysWithin, HasFarCorner, IsKept, kept_shifts}
use Rattle.lvl_names.specs.declared.offsets.Kept.{Kept}
use Rattle.lvl_names.specs.declared.offsets.Kept.TheVariants.{Lattice as ByLattice}

-- a list of one shift is the zero shift alone
pub one_is : (shifts : List Point) → StartsAtZero shifts → length shifts ≡ 1 → shifts ≡ one_place
one_is [] z h = absurd (omega (arith, h))
one_is (p ∷ []) z h = cc
one_is (p ∷ q ∷ shifts) z h = absurd (omega (arith, h))

-- w is between zero and z
record IsOnWay (w z : ℤ) : Type 0 where
  way : ((pos 0 ≤ℤ w) × (w ≤ℤ z)) ⊎ ((z ≤ℤ w) × (w ≤ℤ pos 0))

fewer_steps : (i p : ℕ) (a : ℤ) → i ≤ p → IsOnWay (pos i *ℤ a) (pos p *ℤ a)
fewer_steps i p (pos u) h =
    let k : i * u ≤ p * u = omega (arith, mul-le-mul_left u h) in
    record { way = inl (omega (arith, ints), omega (arith, ints)) }
fewer_steps i p (negsuc u) h =
    let k : i * suc u ≤ p * suc u = omega (arith, mul-le-mul_left (suc u) h) in
    record { way = inr (omega (arith, ints), omega (arith, ints)) }

fits_between : (w z : ℤ) → IsOnWay w z → SFits w64 z → SFits w64 w
fits_between w z h f = ⊎_elim (λ k. omega (arith, ints, k.0, k.1)) (λ k. omega (arith, ints, k.0, k.1)) h.way

fits_sum : (v w y z : ℤ) → IsOnWay v y → IsOnWay w z → SFits w64 y → SFits w64 z → SFits w64 (y +ℤ z)
    → SFits w64 (v +ℤ w)
fits_sum v w y z hv hw fy fz f =
    ⊎_elim
    (λ k.
    ⊎_elim (λ l. omega (arith, ints, k.0, k.1, l.0, l.1)) (λ l. omega (arith, ints, k.0, k.1, l.0, l.1)) hw.way)
    (λ k. ⊎_elim (λ l. omega (arith, ints, k.0, k.1, l.0, l.1)) (λ l. omega (arith, ints, k.0, k.1, l.0, l.1)) hw.way)
    hv.way

pub stays_below : (a : ℤ) (i p : ℕ) (b : ℤ) (j q : ℕ) → i ≤ p → j ≤ q → StaysWithin a p b q → StaysWithin a i b j
stays_below a i p b j q hi hj s = record {
  across = fits_between _ _ (fewer_steps i p a hi) s.across;
  up = fits_between _ _ (fewer_steps j q b hj) s.up;
  both = fits_sum _ _ _ _ (fewer_steps i p a hi) (fewer_steps j q b hj) s.across s.up s.both;
}

some_where : (o : Option ℤ) (P : Type 0) (v : ℤ) → SomeIff o P v → IsTrue (is_some o) ↔ P
some_where None P v h = (λ t. absurd (search rules), λ p. absurd (h p))
some_where (Some x) P v h = (λ t. h.0, λ p. search rules)

pub stays_where : (a : ℤ) (i : ℕ) (b : ℤ) (j : ℕ) (across up : ℤ) (o : Option ℤ) → SFits w64 (pos i *ℤ a)
    → SFits w64 (pos j *ℤ b) → across ≡ pos i *ℤ a → up ≡ pos j *ℤ b
    → SomeIff o (SFits w64 (to_z w64 (of_z w64 across) +ℤ to_z w64 (of_z w64 up)))
    (to_z w64 (of_z w64 across) +ℤ to_z w64 (of_z w64 up)) → IsTrue (is_some o) ↔ StaysWithin a i b j
stays_where a i b j across up o fa fb ea eb h =
    let fits : ℤ → Type 0 = λ z. SFits w64 z in
    let first : to_z w64 (of_z w64 across) ≡ pos i *ℤ a = to_z-of_z w64 across (subst fits (sym ea) fa) ∙ ea in
    let second : to_z w64 (of_z w64 up) ≡ pos j *ℤ b = to_z-of_z w64 up (subst fits (sym eb) fb) ∙ eb in
    let both : SomeIff o (SFits w64 ((pos i *ℤ a) +ℤ (pos j *ℤ b))) ((pos i *ℤ a) +ℤ (pos j *ℤ b)) =
    rw (first, second) at h in
    let w = some_where o _ _ both in
    (λ t. record { across = fa; up = fb; both = w.0 t }, λ s. w.1 s.both)

-- the index of a shift of the lattice, by its column and row
pub place_in : (k m n : ℕ) → 0 < m → k < m * n → (k % m < m) × (k / m < n)
place_in k m n hm hk = (omega arith, (div-lt_iff_lt-mul hm).1 (omega arith))

pub lattice_at : (a : Point) (m : ℕ) (b : Point) (n k : ℕ) → k < m * n
    → slice_get (lattice a m b n) k ≡ Some (steps a (k % m) b (k / m))
lattice_at a m b n k h =
    let f : ℕ → Point = λ q. steps a (q % m) b (q / m) in
    slice_get-get_or (lattice a m b n) k a (omega (arith, length-map-range_with_len f 0 (m * n)))
    ∙ ap Some (get_or-map-range_with_len f 0 (m * n) k k a h (omega arith))

pub lattice_past : (a : Point) (m : ℕ) (b : Point) (n k : ℕ) → m * n ≤ k → slice_get (lattice a m b n) k ≡ None
lattice_past a m b n k h =
    let f : ℕ → Point = λ q. steps a (q % m) b (q / m) in
    slice_get_past (lattice a m b n) k (omega (arith, length-map-range_with_len f 0 (m * n)))

pub lattice_long : (a : Point) (m : ℕ) (b : Point) (n : ℕ) → length (lattice a m b n) ≡ m * n
lattice_long a m b n = length-map-range_with_len (λ q. steps a (q % m) b (q / m)) 0 (m * n)

place_stays : (a : ℤ) (m : ℕ) (b : ℤ) (n k : ℕ) → 0 < m → k < m * n → StaysWithin a (m - 1) b (n - 1)
    → StaysWithin a (k % m) b (k / m)
place_stays a m b n k hm hk s =
    let w = place_in k m n hm hk in
    stays_below a (k % m) (m - 1) b (k / m) (n - 1) (omega (arith, w.0)) (omega (arith, w.1)) s

pub place_fits : (a : Point) (m : ℕ) (b : Point) (n k : ℕ) → HasFarCorner a m b n → k < m * n
    → StaysWithin a.x (k % m) b.x (k / m) × StaysWithin a.y (k % m) b.y (k / m)
place_fits a m b n k c h =
    (place_stays a.x m b.x n k c.counts.columns h c.xs, place_stays a.y m b.y n k c.counts.columns h c.ys)

-- what holds of all shifts holds of the one in a column and a row
in_lattice : (P : Point → Type 0) (a : Point) (m : ℕ) (b : Point) (n i j : ℕ) → All P (lattice a m b n) → i < m → j < n
    → P (steps a i b j)
in_lattice P a m b n i j all hi hj =
    let f : ℕ → Point = λ q. steps a (q % m) b (q / m) in
    let above : suc j ≤ n = omega arith in
    let k : j * m + i < m * n = omega (arith, mul-le-mul_left m above) in
    let at : P (get_or (lattice a m b n) (j * m + i) a) =
    All-get_or P (lattice a m b n) (j * m + i) a (omega (arith, k, length-map-range_with_len f 0 (m * n))) all in
    let e : get_or (lattice a m b n) (j * m + i) a ≡ steps a i b j =
    get_or-map-range_with_len f 0 (m * n) (j * m + i) (j * m + i) a k (omega arith)
    ∙ rw (mod-mul-add j m i hi, div-mul-add j m i hi) refl in
    subst P e at

-- what holds in each column and row holds of all shifts
over_lattice : (P : Point → Type 0) (a : Point) (m : ℕ) (b : Point) (n : ℕ) → 0 < m
    → ((i j : ℕ) → i < m → j < n → P (steps a i b j)) → All P (lattice a m b n)
over_lattice P a m b n hm each =
    λ k d h.
    let f : ℕ → Point = λ q. steps a (q % m) b (q / m) in
    let lt : k < m * n = omega (arith, lattice_long a m b n) in
    let at = place_in k m n hm lt in
    let e : get_or (lattice a m b n) k d ≡ steps a (k % m) b (k / m) =
    get_or-map-range_with_len f 0 (m * n) k k d lt (omega arith) in
    subst P (sym e) (each (k % m) (k / m) at.0 at.1)

fits_in : (a : Point) (m : ℕ) (b : Point) (n i j : ℕ) → IsLattice a m b n → i < m → j < n → FitsPoint (steps a i b j)
fits_in a m b n i j l hi hj = in_lattice FitsPoint a m b n i j l.fit hi hj

no_step_up : (w z : ℤ) → SFits w64 (w +ℤ (pos 0 *ℤ z)) → SFits w64 w
no_step_up w (pos u) h = omega (arith, ints, h)
no_step_up w (negsuc u) h = omega (arith, ints, h)

no_step_across : (w z : ℤ) → SFits w64 ((pos 0 *ℤ z) +ℤ w) → SFits w64 w
no_step_across w (pos u) h = omega (arith, ints, h)
no_step_across w (negsuc u) h = omega (arith, ints, h)

pub far_corner : (a : Point) (m : ℕ) (b : Point) (n : ℕ) → HasFarCorner a m b n ↔ IsLattice a m b n
far_corner a m b n = (
  λ c. record {
    columns = c.counts.columns;
    rows = c.counts.rows;
    few = c.counts.few;
    fit =
        over_lattice FitsPoint a m b n c.counts.columns (λ i j hi hj. record {
          x_fits = (stays_below a.x i (m - 1) b.x j (n - 1) (omega arith) (omega arith) c.xs).both;
          y_fits = (stays_below a.y i (m - 1) b.y j (n - 1) (omega arith) (omega arith) c.ys).both;
        });
  },
  λ l.
      let columns : m - 1 < m = omega (arith, l.columns) in
      let rows : n - 1 < n = omega (arith, l.rows) in
      let across = fits_in a m b n (m - 1) 0 l columns l.rows in
      let up = fits_in a m b n 0 (n - 1) l l.columns rows in
      let both = fits_in a m b n (m - 1) (n - 1) l columns rows in
      record {
        counts = record { columns = l.columns; rows = l.rows; few = l.few };
        xs = record {
          across = no_step_up _ b.x across.x_fits;
          up = no_step_across _ a.x up.x_fits;
          both = both.x_fits;
        };
        ys = record {
          across = no_step_up _ b.y across.y_fits;
          up = no_step_across _ a.y up.y_fits;
          both = both.y_fits;
        };
      },
)

zero_times : (z : ℤ) → pos 0 *ℤ z ≡ pos 0
zero_times (pos u) = omega (arith, ints)
zero_times (negsuc u) = omega (arith, ints)

pub lattice_zero : (a : Point) (m : ℕ) (b : Point) (n : ℕ) → HasFarCorner a m b n → StartsAtZero (lattice a m b n)
lattice_zero a m b n c =
    let columns : 0 < m = c.counts.columns in
    let lt : 0 < m * n = omega (arith, mul-le-mul_left m c.counts.rows) in
    let col : 0 % m ≡ 0 = omega arith in
    let row : 0 / m ≡ 0 = omega (arith, (place_in 0 m 1 columns (omega arith)).1) in
    lattice_at a m b n 0 lt ∙ rw (col, row, zero_times a.x, zero_times b.x, zero_times a.y, zero_times b.y) refl

-- if a lattice is stored, the list of shifts is that of the lattice
pub seen_lattice : (k : Kept) (a : Point) (m : ℕ) (b : Point) (n : ℕ) (now : List Point) → k ≡ ByLattice a m b n
    → kept_shifts k ≡ now → lattice a m b n ≡ now
seen_lattice k a m b n now is view = ap kept_shifts (sym is) ∙ view

pub kept_corner : (k : Kept) (a : Point) (m : ℕ) (b : Point) (n : ℕ) → k ≡ ByLattice a m b n → IsKept k
    → HasFarCorner a m b n
kept_corner k a m b n is inv = subst IsKept is inv

-- a sum of two numbers that fit, tested
pub moved_where : (x by : ℤ) (o : Option ℤ) → SFits w64 x → SFits w64 by
    → SomeIff o (SFits w64 (to_z w64 (of_z w64 x) +ℤ to_z w64 (of_z w64 by)))
    (to_z w64 (of_z w64 x) +ℤ to_z w64 (of_z w64 by)) → IsTrue (is_some o) ↔ SFits w64 (x +ℤ by)
moved_where x by o fx fb h =
    let plain : SomeIff o (SFits w64 (x +ℤ by)) (x +ℤ by) = rw (to_z-of_z w64 x fx, to_z-of_z w64 by fb) at h in
    some_where o _ _ plain

moved_sum : (t v w y z : ℤ) → IsOnWay v y → IsOnWay w z → SFits w64 t → SFits w64 (y +ℤ t) → SFits w64 (z +ℤ t)
    → SFits w64 ((y +ℤ z) +ℤ t) → SFits w64 ((v +ℤ w) +ℤ t)
moved_sum t v w y z hv hw ft fy fz f =
    ⊎_elim
    (λ k.
    ⊎_elim (λ l. omega (arith, ints, k.0, k.1, l.0, l.1)) (λ l. omega (arith, ints, k.0, k.1, l.0, l.1)) hw.way)
    (λ k. ⊎_elim (λ l. omega (arith, ints, k.0, k.1, l.0, l.1)) (λ l. omega (arith, ints, k.0, k.1, l.0, l.1)) hw.way)
    hv.way

-- along one axis: a shift fits after a move if those at the corners do
moved_axis : (t a : ℤ) (i p : ℕ) (b : ℤ) (j q : ℕ) → i ≤ p → j ≤ q → SFits w64 t
    → SFits w64 (((pos p *ℤ a) +ℤ (pos 0 *ℤ b)) +ℤ t) → SFits w64 (((pos 0 *ℤ a) +ℤ (pos q *ℤ b)) +ℤ t)
    → SFits w64 (((pos p *ℤ a) +ℤ (pos q *ℤ b)) +ℤ t)
    → SFits w64 (((pos i *ℤ a) +ℤ (pos j *ℤ b)) +ℤ t)
moved_axis t a i p b j q hi hj ft across up far =
    let y : SFits w64 (((pos p *ℤ a) +ℤ pos 0) +ℤ t) = rw (zero_times b) at across in
    let z : SFits w64 ((pos 0 +ℤ (pos q *ℤ b)) +ℤ t) = rw (zero_times a) at up in
    moved_sum t _ _ _ _ (fewer_steps i p a hi) (fewer_steps j q b hj) ft (omega (arith, ints, y))
    (omega (arith, ints, z)) far

-- all shifts fit after a move exactly if those at the corners do
pub corners_moved : (by a : Point) (m : ℕ) (b : Point) (n : ℕ) → FitsPoint by → HasFarCorner a m b n
    → (FitsPoint (shifted by (steps a (m - 1) b 0)) × FitsPoint (shifted by (steps a 0 b (n - 1)))
    × FitsPoint (shifted by (steps a (m - 1) b (n - 1)))) ↔ All (λ e. FitsPoint (shifted by e)) (lattice a m b n)
corners_moved by a m b n fits c =
    let P : Point → Type 0 = λ e. FitsPoint (shifted by e) in
    let last_column : m - 1 < m = omega (arith, c.counts.columns) in
    let last_row : n - 1 < n = omega (arith, c.counts.rows) in (
      λ f.
          over_lattice P a m b n c.counts.columns (λ i j hi hj. record {
            x_fits =
                moved_axis by.x a.x i (m - 1) b.x j (n - 1) (omega arith) (omega arith) fits.x_fits f.0.x_fits
                f.1.x_fits f.2.x_fits;
            y_fits =
                moved_axis by.y a.y i (m - 1) b.y j (n - 1) (omega arith) (omega arith) fits.y_fits f.0.y_fits
                f.1.y_fits f.2.y_fits;
          }),
      λ all. (
        in_lattice P a m b n (m - 1) 0 all last_column c.counts.rows,
        in_lattice P a m b n 0 (n - 1) all c.counts.columns last_row,
        in_lattice P a m b n (m - 1) (n - 1) all last_column last_row,
      ),
    )

points_same : (p q : Point) (same : Bool) → same ≡ (int_eq p.x q.x && int_eq p.y q.y) → same ≡ true → p ≡ q
points_same p q same e t = same_point p q (grind (arith, ints, e, t)) (grind (arith, ints, e, t))

-- lattices of the same steps and counts have the same shifts
pub same_lattice : (k l : Kept) (a : Point) (m : ℕ) (b : Point) (n : ℕ) (c : Point) (p : ℕ) (d : Point) (q : ℕ)
    (steps rows : Bool) (xs ys : List Point)
    → k ≡ ByLattice a m b n → l ≡ ByLattice c p d q → kept_shifts k ≡ xs → kept_shifts l ≡ ys
    → steps ≡ (int_eq a.x c.x && int_eq a.y c.y) → steps ≡ true → m ≡ p → rows ≡ (int_eq b.x d.x && int_eq b.y d.y)
    → rows ≡ true → n ≡ q → xs ≡ ys
same_lattice k l a m b n c p d q steps rows xs ys hk hl vk vl ea ta em eb tb en =
    let first : lattice a m b n ≡ lattice c m b n = ap (λ z. lattice z m b n) (points_same a c steps ea ta) in
    let second : lattice c m b n ≡ lattice c p b n = ap (λ z. lattice c z b n) em in
    let third : lattice c p b n ≡ lattice c p d n = ap (λ z. lattice c p z n) (points_same b d rows eb tb) in
    let fourth : lattice c p d n ≡ lattice c p d q = ap (λ z. lattice c p d z) en in
    sym (seen_lattice k a m b n xs hk vk) ∙ (first ∙ (second ∙ (third ∙ (fourth ∙ seen_lattice l c p d q ys hl vl))))

-- a sum of two steps is between the least and the greatest of the corners' sums
sum_between : (v w y z l h : ℤ) → IsOnWay v y → IsOnWay w z → l ≤ℤ pos 0 → l ≤ℤ y → l ≤ℤ z → l ≤ℤ (y +ℤ z)
    → pos 0 ≤ℤ h → y ≤ℤ h → z ≤ℤ h → (y +ℤ z) ≤ℤ h → (l ≤ℤ (v +ℤ w)) × ((v +ℤ w) ≤ℤ h)
sum_between v w y z l h hv hw a b c d e f g k =
    ⊎_elim
    (λ s.
    ⊎_elim (λ t. (
      omega (arith, ints, s.0, s.1, t.0, t.1, a, b, c, d),
      omega (arith, ints, s.0, s.1, t.0, t.1, e, f, g, k),
    ))
    (λ t. (omega (arith, ints, s.0, s.1, t.0, t.1, a, b, c, d), omega (arith, ints, s.0, s.1, t.0, t.1, e, f, g, k)))
    hw.way)
    (λ s.
    ⊎_elim (λ t. (
      omega (arith, ints, s.0, s.1, t.0, t.1, a, b, c, d),
      omega (arith, ints, s.0, s.1, t.0, t.1, e, f, g, k),
    ))
    (λ t. (omega (arith, ints, s.0, s.1, t.0, t.1, a, b, c, d), omega (arith, ints, s.0, s.1, t.0, t.1, e, f, g, k)))
    hw.way)
    hv.way

-- along one axis: the shifts of a lattice are between the least and the greatest of those at its corners
axis_between : (a : ℤ) (i p : ℕ) (b : ℤ) (j q : ℕ) → i ≤ p → j ≤ q → let across : ℤ = (pos p *ℤ a) +ℤ (pos 0 *ℤ b) in
    let up : ℤ = (pos 0 *ℤ a) +ℤ (pos q *ℤ b) in
    let far : ℤ = (pos p *ℤ a) +ℤ (pos q *ℤ b) in
    let at : ℤ = (pos i *ℤ a) +ℤ (pos j *ℤ b) in
    (int_min (int_min (pos 0) across) (int_min up far) ≤ℤ at)
    × (at ≤ℤ int_max (int_max (pos 0) across) (int_max up far))
axis_between a i p b j q hi hj =
    let y : ℤ = pos p *ℤ a in
    let z : ℤ = pos q *ℤ b in
    let none : pos 0 *ℤ a ≡ pos 0 = zero_times a in
    let nothing : pos 0 *ℤ b ≡ pos 0 = zero_times b in
    rw (none, nothing)
    (sum_between (pos i *ℤ a) (pos j *ℤ b) y z (int_min (int_min (pos 0) (y +ℤ pos 0)) (int_min (pos 0 +ℤ z) (y +ℤ z)))
    (int_max (int_max (pos 0) (y +ℤ pos 0)) (int_max (pos 0 +ℤ z) (y +ℤ z))) (fewer_steps i p a hi)
    (fewer_steps j q b hj) (omega (arith, ints, clamps)) (omega (arith, ints, clamps)) (omega (arith, ints, clamps))
    (omega (arith, ints, clamps)) (omega (arith, ints, clamps)) (omega (arith, ints, clamps))
    (omega (arith, ints, clamps)) (omega (arith, ints, clamps)))

abbrev pub low_of : Point → Point → Point
low_of p q = record { x = int_min p.x q.x; y = int_min p.y q.y }

abbrev pub high_of : Point → Point → Point
high_of p q = record { x = int_max p.x q.x; y = int_max p.y q.y }

-- all shifts of a lattice are between the least and the greatest of those at its corners
pub lattice_between : (a : Point) (m : ℕ) (b : Point) (n : ℕ) → HasFarCorner a m b n
    → let zero : Point = record { x = pos 0; y = pos 0 } in
    let across : Point = steps a (m - 1) b 0 in
    let up : Point = steps a 0 b (n - 1) in
    let far : Point = steps a (m - 1) b (n - 1) in
    All (IsBetween (low_of (low_of zero across) (low_of up far)) (high_of (high_of zero across) (high_of up far)))
    (lattice a m b n)
lattice_between a m b n c =
    let zero : Point = record { x = pos 0; y = pos 0 } in
    let across : Point = steps a (m - 1) b 0 in
    let up : Point = steps a 0 b (n - 1) in
    let far : Point = steps a (m - 1) b (n - 1) in
    let low : Point = low_of (low_of zero across) (low_of up far) in
    let high : Point = high_of (high_of zero across) (high_of up far) in
    let each : (i j : ℕ) → i < m → j < n → IsBetween low high (steps a i b j) =
    λ i j hi hj.
    let x = axis_between a.x i (m - 1) b.x j (n - 1) (omega arith) (omega arith) in
    let y = axis_between a.y i (m - 1) b.y j (n - 1) (omega arith) (omega arith) in
    record { left = x.0; right = x.1; below = y.0; above = y.1 } in
    over_lattice (IsBetween low high) a m b n c.counts.columns each
