-- Shifts of a lattice, by row and column.
use Rattle.std.proofs.Common.{◌≡◌, ◌≤◌, ◌<◌, ◌+◌, ◌-◌, ◌*◌, ◌/◌, ◌%◌, ◌^◌, ℕ, ℤ, pos, ◌+ℤ◌, ◌*ℤ◌, List}
use Rattle.std.proofs.Common.{slice_get, Option, Some}
use Rattle.std.proofs.Common.{sym, ap, subst, ◌∙◌, arith}
use Rattle.std.proofs.Math.Nat.{mul-le-mul_left, div-lt_iff_lt-mul, mod-lt}
use Rattle.std.proofs.lemmas.Int.{ints}
use Rattle.std.proofs.lemmas.Nat.{div-mul-add, mod-mul-add}
use Rattle.std.proofs.lemmas.Option.{slice_get_within}
use Rattle.lvl_grid.specs.declared.point.Point.{Point}
use Rattle.lvl_grid.specs.Turn.{shifted}
use Rattle.lvl_grid.proofs.Composing.{same_point}
use Rattle.lvl_names.specs.Shifts.{steps, lattice}
use Rattle.lvl_names.proofs.Lattices.{lattice_at, lattice_long}
use Rattle.lvl_cells.proofs.Sequences.{one_answer}
use Rattle.lvl_grid.proofs.Paths.{origin}
use Rattle.lvl_witness.specs.declared.areas.Area.{Area}
use Rattle.lvl_witness.specs.declared.lattice.Lattice.{Lattice}
use Rattle.lvl_witness.specs.declared.stretch.Stretch.{Stretch}
use Rattle.lvl_witness.specs.inside.Areas.{IsInArea, IsOnWay}
use Rattle.lvl_witness.specs.inside.Stretches.{IsInStretch}
use Rattle.lvl_witness.specs.inside.Lattices.{IsLatticeOf, stepped}
use Rattle.lvl_witness.proofs.Multiples.{zero_times, on_way}

-- the rows up to this one are among all places
pub row_within : (m n row : ℕ) → row < n → (row + 1) * m ≤ m * n
row_within m n row below =
    let less : row + 1 ≤ n = omega arith in
    let more : (row + 1) * m ≤ n * m = omega (arith, mul-le-mul_left m less) in
    omega (arith, more)

-- the shift at a column of a row
pub at_column : (a : Point) (m : ℕ) (b : Point) (n row i : ℕ) → row < n → i < m
    → slice_get (lattice a m b n) (row * m + i) ≡ Some (steps a i b row)
at_column a m b n row i below inside =
    let within : row * m + i < m * n = omega (arith, row_within m n row below) in
    let of : ℕ → ℕ → Option Point = λ x y. Some (steps a x b y) in
    lattice_at a m b n (row * m + i) within
    ∙ (ap (λ x. of x ((row * m + i) / m)) (mod-mul-add row m i inside) ∙ ap (of i) (div-mul-add row m i inside))

-- from the first shift of a row, steps across lead to the others
from_first : (a b : Point) (i row : ℕ) → steps a i b row ≡ stepped (steps a 0 b row) a i
from_first a b i row =
    same_point _ _ (omega (arith, ints, zero_times a.x)) (omega (arith, ints, zero_times a.y))

pub in_row : (a : Point) (m : ℕ) (b : Point) (n row k : ℕ) (e : Point) → row < n → row * m ≤ k → k < (row + 1) * m
    → slice_get (lattice a m b n) k ≡ Some e → e ≡ stepped (steps a 0 b row) a (k - row * m)
in_row a m b n row k e below from to at =
    let i : ℕ = k - row * m in
    let inside : i < m = omega (arith, from, to) in
    let whole : row * m + i ≡ k = omega (arith, from) in
    let there : slice_get (lattice a m b n) k ≡ Some (steps a i b row) =
    subst (λ x. slice_get (lattice a m b n) x ≡ Some (steps a i b row)) whole (at_column a m b n row i below inside) in
    one_answer at there ∙ from_first a b i row

-- the shift at a place, by its row and its column
pub by_row : (a : Point) (m : ℕ) (b : Point) (n k : ℕ) (e : Point) → slice_get (lattice a m b n) k ≡ Some e
    → e ≡ steps a (k % m) b (k / m)
by_row a m b n k e at =
    let within : k < m * n =
    omega (arith, slice_get_within (lattice a m b n) k e at, lattice_long a m b n) in
    one_answer at (lattice_at a m b n k within)

-- its row is one of the lattice
pub row_below : (a : Point) (m : ℕ) (b : Point) (n k : ℕ) (e : Point) → 0 < m → slice_get (lattice a m b n) k ≡ Some e
    → k / m < n
row_below a m b n k e some at =
    let within : k < m * n =
    omega (arith, slice_get_within (lattice a m b n) k e at, lattice_long a m b n) in
    (div-lt_iff_lt-mul some).1 (omega (arith, within))

plus_none : (z b : ℤ) → z +ℤ (pos 0 *ℤ b) ≡ z
plus_none z b = omega (arith, ints, zero_times b)

-- in a row, what is between the first and the last shift
pub across_on_way : (a : Point) (m : ℕ) (b : Point) (i : ℕ) (end' : Point) → i < m → end' ≡ steps a (m - 1) b 0
    → IsOnWay (pos i *ℤ a.x) end'.x × IsOnWay (pos i *ℤ a.y) end'.y
across_on_way a m b i end' below is =
    let x = on_way i (m - 1) a.x (omega (arith, below)) in
    let y = on_way i (m - 1) a.y (omega (arith, below)) in
    let at_x : end'.x ≡ pos (m - 1) *ℤ a.x =
    ap (λ (p : Point). p.x) is ∙ plus_none (pos (m - 1) *ℤ a.x) b.x in
    let at_y : end'.y ≡ pos (m - 1) *ℤ a.y =
    ap (λ (p : Point). p.y) is ∙ plus_none (pos (m - 1) *ℤ a.y) b.y in (
      subst (IsOnWay (pos i *ℤ a.x)) (sym at_x) x,
      subst (IsOnWay (pos i *ℤ a.y)) (sym at_y) y,
    )

many_rows : (m n : ℕ) → 0 < n → m ≤ m * n
many_rows m n some =
    let one : 1 ≤ n = omega arith in
    let more : 1 * m ≤ n * m = omega (arith, mul-le-mul_left m one) in
    omega (arith, more)

-- where a stretch has the columns of a row whose shifts are in the area
pub row_inside : (shifts : List Point) (l : Lattice) (area : Area) (columns : Stretch) (first : Point) (row k : ℕ)
    (e : Point) → IsLatticeOf shifts l → row < l.rows → slice_get shifts (row * l.columns) ≡ Some first
    → ((i : ℕ) → i < 2 ^ 64 → IsInArea area (stepped first l.across i) → IsInStretch columns i)
    → row * l.columns ≤ k → k < (row + 1) * l.columns → slice_get shifts k ≡ Some e → IsInArea area e
    → IsInStretch columns (k - row * l.columns)
row_inside shifts l area columns first row k e kept below begins each from to at inside =
    let m : ℕ = l.columns in
    let of_list : (x : ℕ) (d : Point) → slice_get shifts x ≡ Some d
    → slice_get (lattice l.across m l.up l.rows) x ≡ Some d =
    λ x d h. subst (λ ps. slice_get ps x ≡ Some d) kept.is h in
    let zero : row * m + 0 ≡ row * m = omega arith in
    let first_is : first ≡ steps l.across 0 l.up row =
    one_answer (of_list (row * m) first begins)
    (subst (λ x. slice_get (lattice l.across m l.up l.rows) x ≡ Some (steps l.across 0 l.up row)) zero
    (at_column l.across m l.up l.rows row 0 below kept.kept.columns)) in
    let point : e ≡ stepped first l.across (k - row * m) =
    in_row l.across m l.up l.rows row k e below from to (of_list k e at)
    ∙ ap (λ p. stepped p l.across (k - row * m)) (sym first_is) in
    let few : m ≤ m * l.rows = many_rows m l.rows kept.kept.rows in
    each (k - row * m) (omega (arith, few, kept.kept.few, to, from)) (subst (IsInArea area) point inside)

-- where a stretch has the rows of a lattice whose shifts may be in the area
pub rows_inside : (shifts : List Point) (l : Lattice) (area wide : Area) (rows : Stretch) (end' : Point) (k : ℕ)
    (e : Point) → IsLatticeOf shifts l → slice_get shifts (l.columns - 1) ≡ Some end'
    → ((p d : Point) → IsOnWay p.x end'.x → IsOnWay p.y end'.y → IsInArea area (shifted d p) → IsInArea wide d)
    → ((i : ℕ) → i < 2 ^ 64 → IsInArea wide (stepped origin l.up i) → IsInStretch rows i)
    → slice_get shifts k ≡ Some e → IsInArea area e → IsInStretch rows (k / l.columns)
rows_inside shifts l area wide rows end' k e kept ends wider each at inside =
    let a : Point = l.across in
    let m : ℕ = l.columns in
    let b : Point = l.up in
    let of_list : (x : ℕ) (d : Point) → slice_get shifts x ≡ Some d
    → slice_get (lattice a m b l.rows) x ≡ Some d =
    λ x d h. subst (λ ps. slice_get ps x ≡ Some d) kept.is h in
    let i : ℕ = k % m in
    let j : ℕ = k / m in
    let last : 0 * m + (m - 1) ≡ m - 1 = omega arith in
    let end_is : end' ≡ steps a (m - 1) b 0 =
    one_answer (of_list (m - 1) end' ends)
    (subst (λ x. slice_get (lattice a m b l.rows) x ≡ Some (steps a (m - 1) b 0)) last
    (at_column a m b l.rows 0 (m - 1) kept.kept.rows (omega (arith, kept.kept.columns)))) in
    let way = across_on_way a m b i end' (mod-lt k kept.kept.columns) end_is in
    let p : Point = record { x = pos i *ℤ a.x; y = pos i *ℤ a.y } in
    let parts : e ≡ shifted (stepped origin b j) p =
    by_row a m b l.rows k e (of_list k e at) ∙ same_point _ _ (omega (arith, ints)) (omega (arith, ints)) in
    let below : j < l.rows = row_below a m b l.rows k e kept.kept.columns (of_list k e at) in
    let few : l.rows ≤ l.rows * m = many_rows l.rows m kept.kept.columns in
    each j (omega (arith, below, few, kept.kept.few))
    (wider p (stepped origin b j) way.0 way.1 (subst (IsInArea area) parts inside))
