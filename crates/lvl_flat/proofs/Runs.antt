-- Runs of shifts that are skipped at once.
use Rattle.std.proofs.Common.{◌≡◌, ◌≤◌, ◌<◌, ◌+◌, ◌-◌, ◌*◌, ◌/◌, ◌%◌, ◌^◌, ℕ, suc, ℤ, pos, negsuc, ◌+ℤ◌, ◌*ℤ◌, ◌≤ℤ◌}
use Rattle.std.proofs.Common.{List, length, get_or, slice_get, Option, Some, All, refl, sym, ap, subst, ◌∙◌}
use Rattle.std.proofs.Common.{arith}
use Rattle.std.proofs.Math.Nat.{mul-le-mul_left, add-mul, div-eq_of_lt-le, div-lt_iff_lt-mul, div-mul-le_self, mod-lt}
use Rattle.std.proofs.lemmas.Nat.{div-add-mod', le-div, mod-mul-add}
use Rattle.std.proofs.lemmas.Int.{ints}
use Rattle.std.proofs.lemmas.Option.{slice_get_within, slice_get-get_or, get_or_from_slice_get}
use Rattle.lvl_grid.specs.declared.point.Point.{Point}
use Rattle.lvl_grid.specs.declared.point.Window.{Window}
use Rattle.lvl_grid.specs.declared.map.Map.{Map}
use Rattle.lvl_grid.specs.Turn.{image, FitsPoint}
use Rattle.lvl_grid.proofs.Composing.{composed, image-composed}
use Rattle.lvl_grid.proofs.Paths.{origin}
use Rattle.lvl_names.specs.Shifts.{steps, lattice}
use Rattle.lvl_names.proofs.Lattices.{lattice_at, lattice_long}
use Rattle.lvl_cells.specs.Cells.{PlainCell, PlainReference, Rings, map_at}
use Rattle.lvl_cells.specs.Chains.{unmoved}
use Rattle.lvl_cells.specs.Checks.{IsTargetOf}
use Rattle.lvl_flat.specs.declared.bounds.Bounds.{Bounds}
use Rattle.lvl_flat.specs.declared.visit.Visit.{Visit}
use Rattle.lvl_flat.specs.Boxes.{HoldsPoint, AreBoxes}
use Rattle.lvl_flat.specs.inside.Bounds.{Widens}
use Rattle.lvl_flat.specs.inside.Passing.{before_shifts, IsSpreadOutside, IsMissed, AreMissed, IsRun, HasRows}
use Rattle.lvl_flat.specs.inside.Passing.{HasColumns, HoldsShift, HoldsEnds, at_place, IsMissedAt}
use Rattle.lvl_flat.proofs.Holding.{fits_within, moved_place}
use Rattle.lvl_flat.proofs.Ranging.{composed_at, image-unmoved}
use Rattle.lvl_flat.proofs.Stepping.{step_into}

-- a multiple between two others is at least the lesser of them
at_least_between : (l : ℤ) (i j k : ℕ) (a r : ℤ) → i ≤ j → j ≤ k → l ≤ℤ ((pos i *ℤ a) +ℤ r) → l ≤ℤ ((pos k *ℤ a) +ℤ r)
    → l ≤ℤ ((pos j *ℤ a) +ℤ r)
at_least_between l i j k (pos u) r h g p q =
    let more : i * u ≤ j * u = omega (arith, mul-le-mul_left u h) in
    omega (arith, ints, p)
at_least_between l i j k (negsuc u) r h g p q =
    let less : j * suc u ≤ k * suc u = omega (arith, mul-le-mul_left (suc u) g) in
    omega (arith, ints, q)

-- and at most the greater
at_most_between : (u : ℤ) (i j k : ℕ) (a r : ℤ) → i ≤ j → j ≤ k → ((pos i *ℤ a) +ℤ r) ≤ℤ u → ((pos k *ℤ a) +ℤ r) ≤ℤ u
    → ((pos j *ℤ a) +ℤ r) ≤ℤ u
at_most_between u i j k (pos v) r h g p q =
    let less : j * v ≤ k * v = omega (arith, mul-le-mul_left v g) in
    omega (arith, ints, q)
at_most_between u i j k (negsuc v) r h g p q =
    let more : i * suc v ≤ j * suc v = omega (arith, mul-le-mul_left (suc v) h) in
    omega (arith, ints, p)

-- increasing indexes of the same row
record AreInRow (m i j k : ℕ) : Type 0 where
  row : j / m ≡ i / m
  first : i % m ≤ j % m
  last : j % m ≤ k % m

in_row : (m i j k : ℕ) → 0 < m → i ≤ j → j ≤ k → i / m ≡ k / m → AreInRow m i j k
in_row m i j k some h g same =
    let q : ℕ = i / m in
    let at : q * m + i % m ≡ i = div-add-mod' i m in
    let end' : q * m + k % m ≡ k = subst (λ x. x * m + k % m ≡ k) (sym same) (div-add-mod' k m) in
    let below : k % m < m = mod-lt k some in
    let row : j / m ≡ q = div-eq_of_lt-le m (omega (arith, at, h)) (omega (arith, end', below, g)) in
    let here : q * m + j % m ≡ j = subst (λ x. x * m + j % m ≡ j) row (div-add-mod' j m) in
    record { row = row; first = omega (arith, at, here, h); last = omega (arith, end', here, g) }

lattice_read : (a : Point) (m : ℕ) (b : Point) (n t : ℕ) (p : Point) → slice_get (lattice a m b n) t ≡ Some p
    → steps a (t % m) b (t / m) ≡ p
lattice_read a m b n t p h =
    let lt : t < m * n = omega (arith, slice_get_within (lattice a m b n) t p h, lattice_long a m b n) in
    let both : Some (steps a (t % m) b (t / m)) ≡ Some p = sym (lattice_at a m b n t lt) ∙ h in
    cc

-- the rows of a lattice
pub lattice_rows : (a : Point) (m : ℕ) (b : Point) (n : ℕ) → 0 < m → HasRows m (lattice a m b n)
lattice_rows a m b n some = record {
  line = λ i j k h g same. record {
    between = λ box p e q atp ate atq w v.
        let row = in_row m i j k some h g same in
        let up : ℕ = i / m in
        let first : steps a (i % m) b up ≡ p = lattice_read a m b n i p atp in
        let middle : steps a (j % m) b up ≡ e =
        subst (λ r. steps a (j % m) b r ≡ e) row.row (lattice_read a m b n j e ate) in
        let last : steps a (k % m) b up ≡ q =
        subst (λ r. steps a (k % m) b r ≡ q) (sym same) (lattice_read a m b n k q atq) in
        let low : HoldsPoint box (steps a (i % m) b up) = subst (HoldsPoint box) (sym first) w in
        let high : HoldsPoint box (steps a (k % m) b up) = subst (HoldsPoint box) (sym last) v in
        subst (HoldsPoint box) middle (record {
          left =
              at_least_between box.low.x (i % m) (j % m) (k % m) a.x (pos up *ℤ b.x) row.first row.last low.left
              high.left;
          right =
              at_most_between box.high.x (i % m) (j % m) (k % m) a.x (pos up *ℤ b.x) row.first row.last low.right
              high.right;
          below =
              at_least_between box.low.y (i % m) (j % m) (k % m) a.y (pos up *ℤ b.y) row.first row.last low.below
              high.below;
          above =
              at_most_between box.high.y (i % m) (j % m) (k % m) a.y (pos up *ℤ b.y) row.first row.last low.above
              high.above;
        });
  };
}

-- the same sums the other way round
column_least : (l r : ℤ) (i j k : ℕ) (b : ℤ) → i ≤ j → j ≤ k → l ≤ℤ (r +ℤ (pos i *ℤ b)) → l ≤ℤ (r +ℤ (pos k *ℤ b))
    → l ≤ℤ (r +ℤ (pos j *ℤ b))
column_least l r i j k b h g p q =
    let least : l ≤ℤ ((pos j *ℤ b) +ℤ r) =
    at_least_between l i j k b r h g (omega (arith, ints, p)) (omega (arith, ints, q)) in
    omega (arith, ints, least)

column_most : (u r : ℤ) (i j k : ℕ) (b : ℤ) → i ≤ j → j ≤ k → (r +ℤ (pos i *ℤ b)) ≤ℤ u → (r +ℤ (pos k *ℤ b)) ≤ℤ u
    → (r +ℤ (pos j *ℤ b)) ≤ℤ u
column_most u r i j k b h g p q =
    let most : ((pos j *ℤ b) +ℤ r) ≤ℤ u =
    at_most_between u i j k b r h g (omega (arith, ints, p)) (omega (arith, ints, q)) in
    omega (arith, ints, most)

-- of two indexes in the same column, the greater is in no earlier row
row_before : (m i j : ℕ) → 0 < m → i ≤ j → i / m ≤ j / m
row_before m i j some h = le-div (i / m) j m some (omega (arith, div-mul-le_self i m, h))

-- the columns of a lattice
pub lattice_columns : (a : Point) (m : ℕ) (b : Point) (n : ℕ) → 0 < m → HasColumns m (lattice a m b n)
lattice_columns a m b n some = record {
  line = λ i j k h g same more. record {
    between = λ box p e q atp ate atq w v.
        let c : ℕ = i % m in
        let up : i / m ≤ j / m = row_before m i j some h in
        let on : j / m ≤ k / m = row_before m j k some g in
        let first : steps a c b (i / m) ≡ p = lattice_read a m b n i p atp in
        let middle : steps a c b (j / m) ≡ e =
        subst (λ x. steps a x b (j / m) ≡ e) (sym same) (lattice_read a m b n j e ate) in
        let last : steps a c b (k / m) ≡ q =
        subst (λ x. steps a x b (k / m) ≡ q) (sym (same ∙ more)) (lattice_read a m b n k q atq) in
        let low : HoldsPoint box (steps a c b (i / m)) = subst (HoldsPoint box) (sym first) w in
        let high : HoldsPoint box (steps a c b (k / m)) = subst (HoldsPoint box) (sym last) v in
        subst (HoldsPoint box) middle (record {
          left =
              column_least box.low.x (pos c *ℤ a.x) (i / m) (j / m) (k / m) b.x up on low.left high.left;
          right =
              column_most box.high.x (pos c *ℤ a.x) (i / m) (j / m) (k / m) b.x up on low.right high.right;
          below =
              column_least box.low.y (pos c *ℤ a.y) (i / m) (j / m) (k / m) b.y up on low.below high.below;
          above =
              column_most box.high.y (pos c *ℤ a.y) (i / m) (j / m) (k / m) b.y up on low.above high.above;
        });
  };
}

-- every list has rows of length one
pub single_rows : (shifts : List Point) → HasRows 1 shifts
single_rows shifts = record {
  line = λ i j k h g same. record {
    between = λ box p e q atp ate atq w v.
        let ends : i ≡ k = omega (arith, same) in
        let one : i ≡ j = omega (arith, ends) in
        let both : Some p ≡ Some e = sym atp ∙ (ap (slice_get shifts) one ∙ ate) in
        let is : p ≡ e = cc in
        subst (HoldsPoint box) is w;
  };
}

-- the rest of a row is a run of rows of length one
pub run_in_row : (row : ℕ) (shifts : List Point) (from count : ℕ) → HasRows row shifts → 0 < row
    → from % row + count ≤ row → from + count ≤ length shifts → length shifts < 2 ^ 64 → IsRun shifts from 1 count
run_in_row row shifts from count rows some inside there small = record {
  small = omega (arith, there, small);
  held = λ n j b lt first last on below e at.
      let q : ℕ = from / row in
      let begin : q * row + from % row ≡ from = div-add-mod' from row in
      let final : (from + n) / row ≡ q =
      div-eq_of_lt-le row (omega (arith, begin)) (omega (arith, begin, inside, lt)) in
      let p : Point = get_or shifts from e in
      let l : Point = get_or shifts (from + n) e in
      let atp : slice_get shifts from ≡ Some p = slice_get-get_or shifts from e (omega (arith, lt, there)) in
      let atl : slice_get shifts (from + n) ≡ Some l =
      slice_get-get_or shifts (from + n) e (omega (arith, lt, there)) in
      let one : from + n * 1 ≡ from + n = omega arith in
      (rows.line from j (from + n) on (omega (arith, below)) (sym final)).between b p e l atp at atl (first.first p atp)
      (last.first l (ap (slice_get shifts) one ∙ atl));
}

-- a box that has the ends of a row has the shift at each of its places
in_ends : (row : ℕ) (shifts : List Point) (q c : ℕ) (b : Bounds) (d : Point) → HasRows row shifts → c < row
    → q * row + row ≤ length shifts → HoldsEnds shifts b (q * row) row → HoldsShift shifts b (q * row + c)
in_ends row shifts q c b d rows below there ends e at =
    let from : ℕ = q * row in
    let last : ℕ = from + (row - 1) in
    let begin : from / row ≡ q = div-eq_of_lt-le row (omega arith) (omega (arith, add-mul q 1 row, below)) in
    let final : last / row ≡ q =
    div-eq_of_lt-le row (omega arith) (omega (arith, add-mul q 1 row, below)) in
    let p : Point = get_or shifts from d in
    let l : Point = get_or shifts last d in
    let atp : slice_get shifts from ≡ Some p = slice_get-get_or shifts from d (omega (arith, there, below)) in
    let atl : slice_get shifts last ≡ Some l = slice_get-get_or shifts last d (omega (arith, there, below)) in
    (rows.line from (from + c) last (omega arith) (omega (arith, below)) (begin ∙ sym final)).between b p e l atp at atl
    (ends.first p atp) (ends.last l atl)

least_next : (n count : ℕ) → n < count → n + 1 ≤ count
least_next n count lt = omega (arith, lt)

before_next : (u q n : ℕ) → u < q + (n + 1) → u ≤ q + n
before_next u q n lt = omega (arith, lt)

-- rows are a run
pub run_of_rows : (row : ℕ) (shifts : List Point) (from count : ℕ) → HasRows row shifts → HasColumns row shifts
    → 0 < row → from % row ≡ 0 → from + count * row ≤ length shifts → length shifts < 2 ^ 64
    → IsRun shifts from row count
run_of_rows row shifts from count rows columns some begins there small = record {
  small = omega (arith, there, small);
  held = λ n j b lt first last on below e at.
      let q : ℕ = from / row in
      let u : ℕ = j / row in
      let c : ℕ = j % row in
      let is : q * row ≡ from = omega (arith, div-add-mod' from row, begins) in
      let j_is : u * row + c ≡ j = div-add-mod' j row in
      let low : c < row = mod-lt j some in
      let near : q ≤ u = row_before row from j some on in
      let past : u < q + (n + 1) =
      (div-lt_iff_lt-mul some).1 (omega (arith, below, is, add-mul q (n + 1) row)) in
      let end' : ℕ = q + n in
      let far : end' * row ≡ from + n * row = omega (arith, add-mul q n row, is) in
      let more : (n + 1) * row ≤ count * row = omega (arith, mul-le-mul_left row (least_next n count lt)) in
      let next : (n + 1) * row ≡ n * row + row = omega (arith, add-mul n 1 row) in
      let begin_held : HoldsEnds shifts b (q * row) row = subst (λ x. HoldsEnds shifts b x row) (sym is) first in
      let end_held : HoldsEnds shifts b (end' * row) row = subst (λ x. HoldsEnds shifts b x row) (sym far) last in
      let i : ℕ = q * row + c in
      let k : ℕ = end' * row + c in
      let p : Point = get_or shifts i e in
      let l : Point = get_or shifts k e in
      let atp : slice_get shifts i ≡ Some p =
      slice_get-get_or shifts i e (omega (arith, low, is, next, more, there)) in
      let atl : slice_get shifts k ≡ Some l =
      slice_get-get_or shifts k e (omega (arith, low, far, next, more, there)) in
      let less : q * row ≤ u * row = omega (arith, mul-le-mul_left row near) in
      let least : u * row ≤ end' * row = omega (arith, mul-le-mul_left row (before_next u q n past)) in
      (columns.line i j k (omega (arith, less, j_is)) (omega (arith, least, j_is)) (mod-mul-add q row c low)
      (sym (mod-mul-add end' row c low))).between b p e l atp at atl
      (in_ends row shifts q c b e rows low (omega (arith, is, next, more, there)) begin_held p atp)
      (in_ends row shifts end' c b e rows low (omega (arith, far, next, more, there)) end_held l atl);
}

-- and so are fewer rows from the same index on
pub run_shorter : (shifts : List Point) (from row count less : ℕ) → IsRun shifts from row count → less ≤ count
    → IsRun shifts from row less
run_shorter shifts from row count less run h = record {
  small = omega (arith, run.small, mul-le-mul_left row h);
  held = λ n j b lt. run.held n j b (omega (arith, lt, h));
}

-- a box that misses the window at all displacements of another box misses it at each of them
pub spread_missed : (inner by : Bounds) (m : Map) (w : Window) (e : Point) → IsSpreadOutside inner by m w
    → HoldsPoint by e → IsMissed inner m w e
spread_missed inner by m w e out within = record {
  placed = out.placed;
  holds = λ p held. out.holds p e held within;
  fits = out.fits;
  outside = out.outside;
}

-- a run misses if a box of the ends of its first and its last row does
pub run_missed : (shifts : List Point) (from row n count : ℕ) (inner by : Bounds) (m : Map) (w : Window)
    → n + 1 ≡ count → IsRun shifts from row count → HoldsEnds shifts by from row
    → HoldsEnds shifts by (from + n * row) row → IsSpreadOutside inner by m w
    → AreMissed shifts from (from + count * row) inner m w
run_missed shifts from row n count inner by m w ends run first last out j e l below at =
    let end' : from + (n + 1) * row ≡ from + count * row = ap (λ x. from + x * row) ends in
    spread_missed inner by m w e out
    (run.held n j by (omega (arith, ends)) first last l (omega (arith, below, end')) e at)

-- the ends of a row are in a wider box
pub wider_ends : (shifts : List Point) (a b : Bounds) (from row : ℕ) → Widens a b → HoldsEnds shifts a from row
    → HoldsEnds shifts b from row
wider_ends shifts a b from row wider ends = record {
  first = λ e at. wider.holds e (ends.first e at);
  last = λ e at. wider.holds e (ends.last e at);
}

-- all shifts miss if their box does
pub all_missed : (shifts : List Point) (from to : ℕ) (inner by : Bounds) (m : Map) (w : Window)
    → All (HoldsPoint by) shifts → IsSpreadOutside inner by m w → AreMissed shifts from to inner m w
all_missed shifts from to inner by m w all out j e l below at =
    spread_missed inner by m w e out
    (subst (HoldsPoint by) (get_or_from_slice_get shifts j e e at) (all j e (slice_get_within shifts j e at)))

-- a visit places nothing in the window at a shift at which the box of the cell misses
pub missed_at : (cells : List (PlainCell Rings)) (known : List (Option Bounds)) (w : Window) (v : Visit)
    (c : PlainCell Rings) (r : PlainReference) (t k : ℕ) (box inner : Bounds) (e : Point) → AreBoxes cells known
    → slice_get cells v.cell ≡ Some c → slice_get c.references v.reference ≡ Some r
    → IsTargetOf cells v.cell v.reference t → slice_get known t ≡ Some (Some box)
    → ((p : Point) → HoldsPoint box p → HoldsPoint inner (image (before_shifts r) p)) → slice_get r.shifts k ≡ Some e
    → IsMissed inner v.map w e → IsMissedAt cells known w v k
missed_at cells known w v c r t k box inner e boxes at there target box_is held shift missed =
    let m : Map = composed v.map (map_at r e) in
    let holds : (p : Point) → HoldsPoint box p → HoldsPoint missed.placed (image m p) =
    λ p within.
    subst (HoldsPoint missed.placed)
    (ap (image v.map) (moved_place r (before_shifts r) e p refl refl refl) ∙ sym (image-composed v.map (map_at r e) p))
    (missed.holds (image (before_shifts r) p) (held p within)) in
    let start : HoldsPoint box origin =
    ((boxes t box target.target box_is target.target_is).1.chains 0 unmoved target.target (refl, refl)).shift in
    let fits : FitsPoint m.at =
    fits_within missed.placed m.at missed.fits
    (subst (HoldsPoint missed.placed) (sym (composed_at m unmoved m (λ p. ap (image m) (sym (image-unmoved p)))))
    (holds origin start)) in
    record {
      index = t;
      map = m;
      into =
          step_into cells (at_place v k) c r t (map_at r e) m at there
          (record { shift = e; there = shift; map_is = refl }) target
          (λ p. image-composed v.map (map_at r e) p) fits;
      out = record {
        box = box;
        there = box_is;
        placed = missed.placed;
        holds = holds;
        fits = missed.fits;
        outside = missed.outside;
      };
    }
