-- Runs of places that a walk within a window skips.
use Rattle.std.specs.Prelude.{◌≡◌, ◌≤◌, ◌<◌, ◌+◌, ◌-◌, ◌*◌, ◌/◌, ◌%◌, ◌^◌, ◌⊎◌, ℕ, List, slice_get, Option, Some}
use Rattle.lvl_grid.specs.declared.point.Point.{Point}
use Rattle.lvl_grid.specs.declared.point.Window.{Window}
use Rattle.lvl_grid.specs.declared.map.Map.{Map}
use Rattle.lvl_grid.specs.Turn.{image, shifted}
use Rattle.lvl_cells.specs.Cells.{PlainCell, PlainReference, Rings}
use Rattle.lvl_cells.specs.Chains.{unmoved}
use Rattle.lvl_flat.specs.declared.bounds.Bounds.{Bounds}
use Rattle.lvl_flat.specs.declared.visit.Visit.{Visit}
use Rattle.lvl_flat.specs.Boxes.{HoldsPoint, FitsBounds}
use Rattle.lvl_flat.specs.inside.Bounds.{IsOutside, IsPlacedOutside}
use Rattle.lvl_flat.specs.inside.Listed.{IsNext}
use Rattle.lvl_flat.specs.inside.Steps.{IsInto}

-- how the reference places its cell before it is moved by a shift
abbrev pub before_shifts : PlainReference → Map
before_shifts r = record { flip = r.flip; turn = r.turn; at = r.at }

-- the box `inner`, moved by any displacements in the box `by` and mapped, fits in 64 signed bits and has no square of
-- the window
pub record IsSpreadOutside (inner by : Bounds) (m : Map) (w : Window) : Type 0 where
  pub placed : Bounds
  pub holds : (p e : Point) → HoldsPoint inner p → HoldsPoint by e → HoldsPoint placed (image m (shifted e p))
  pub fits : FitsBounds placed
  pub outside : IsOutside placed w

-- that holds for the one displacement e
pub record IsMissed (inner : Bounds) (m : Map) (w : Window) (e : Point) : Type 0 where
  pub placed : Bounds
  pub holds : (p : Point) → HoldsPoint inner p → HoldsPoint placed (image m (shifted e p))
  pub fits : FitsBounds placed
  pub outside : IsOutside placed w

-- that holds for each of the shifts with an index from `from` up to `to`, which is excluded
abbrev pub AreMissed : List Point → ℕ → ℕ → Bounds → Map → Window → Type 0
AreMissed shifts from to inner m w =
    (j : ℕ) (e : Point) → from ≤ j → j < to → slice_get shifts j ≡ Some e → IsMissed inner m w e

-- the shift with index j is in every box that has the shifts with indexes i and k
pub record IsBetween (shifts : List Point) (i j k : ℕ) : Type 0 where
  pub between : (b : Bounds) (p e q : Point) → slice_get shifts i ≡ Some p → slice_get shifts j ≡ Some e
      → slice_get shifts k ≡ Some q → HoldsPoint b p → HoldsPoint b q → HoldsPoint b e

-- of the shifts of each row, which are `row` consecutive ones, each is between any earlier and any later one
pub record HasRows (row : ℕ) (shifts : List Point) : Type 0 where
  pub line : (i j k : ℕ) → i ≤ j → j ≤ k → i / row ≡ k / row → IsBetween shifts i j k

-- of the shifts at one place in each row, each is between any earlier and any later one
pub record HasColumns (row : ℕ) (shifts : List Point) : Type 0 where
  pub line : (i j k : ℕ) → i ≤ j → j ≤ k → i % row ≡ j % row → j % row ≡ k % row → IsBetween shifts i j k

-- the box has the shift with this index, if there is one
abbrev pub HoldsShift : List Point → Bounds → ℕ → Type 0
HoldsShift shifts b k = (e : Point) → slice_get shifts k ≡ Some e → HoldsPoint b e

-- the box has the first and the last of `row` shifts from index `from` on
pub record HoldsEnds (shifts : List Point) (b : Bounds) (from row : ℕ) : Type 0 where
  pub first : HoldsShift shifts b from
  pub last : HoldsShift shifts b (from + (row - 1))

-- of `count` rows of `row` shifts each from index `from` on: a box that has the ends of the first row and of another
-- has all shifts from the first to that one. The indexes fit in 64 bits
pub record IsRun (shifts : List Point) (from row count : ℕ) : Type 0 where
  pub small : from + count * row < 2 ^ 64
  pub held : (n j : ℕ) (b : Bounds) → n < count → HoldsEnds shifts b from row
      → HoldsEnds shifts b (from + n * row) row → from ≤ j → j < from + (n + 1) * row → HoldsShift shifts b j

-- the visit, at the place k of its reference
abbrev pub at_place : Visit → ℕ → Visit
at_place v k = record { cell = v.cell; map = v.map; reference = v.reference; place = k; row = v.row }

-- what the reference of the visit places at k fits in 64 signed bits and covers no square of the window
pub record IsMissedAt (cells : List (PlainCell Rings)) (known : List (Option Bounds)) (w : Window) (v : Visit) (k : ℕ)
    : Type 0 where
  pub index : ℕ
  pub map : Map
  pub into : IsInto cells (at_place v k) index map (at_place v (k + 1))
  pub out : IsPlacedOutside known index map w

-- the visit `further` is at a later place of the same reference, and that holds at each place that it skips
pub record IsPassedBy (cells : List (PlainCell Rings)) (known : List (Option Bounds)) (w : Window) (v further : Visit)
    : Type 0 where
  pub cell_is : further.cell ≡ v.cell
  pub map_is : further.map ≡ v.map
  pub reference_is : further.reference ≡ v.reference
  pub on : v.place ≤ further.place
  pub missed : (k : ℕ) → v.place ≤ k → k < further.place → IsMissedAt cells known w further k

-- the visit, at the beginning of the reference j
abbrev pub at_reference : Visit → ℕ → Visit
at_reference v j = record { cell = v.cell; map = v.map; reference = j; place = v.place; row = v.row }

-- a visit of the top, unmoved, that begins a reference goes on with the next reference of the list, or it stays
pub record IsForward (top : ℕ) (list : List ℕ) (v further : Visit) : Type 0 where
  pub cell_is : v.cell ≡ top
  pub map_is : v.map ≡ unmoved
  pub begins : v.place ≡ 0
  pub further_is : further ≡ at_reference v further.reference
  pub next : IsNext list v.reference further.reference

abbrev pub IsForwarded : ℕ → List ℕ → Visit → Visit → Type 0
IsForwarded top list v further = (further ≡ v) ⊎ IsForward top list v further
