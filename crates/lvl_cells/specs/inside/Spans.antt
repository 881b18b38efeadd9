-- The shapes of a cell as they are stored: for each, which rings it has, and the numbers of their displacement and of
-- its list of shifts.
use Rattle.std.specs.Prelude.{◌≡◌, ◌⊎◌, ℕ, ◌+◌, ◌-◌, ◌^◌, ◌<◌, ◌≤◌, List, [], ◌∷◌, map, take, drop, length, get_or, pos}
use Rattle.std.specs.Prelude.{All}
use Rattle.lvl_grid.specs.declared.point.Point.{Point}
use Rattle.lvl_grid.specs.Turn.{FitsPoint, shifted}
use Rattle.lvl_grid.specs.Winding.{IsRing}
use Rattle.lvl_cells.specs.declared.shape_lists.Span.{Span}
use Rattle.lvl_cells.specs.declared.shared.KeptFigure.{KeptFigure}
use Rattle.lvl_cells.specs.Cells.{PlainShape, Rings}
use Rattle.lvl_names.specs.Shifts.{one_place}

-- the list of shifts with a number: 0 means the zero shift alone, k + 1 the kept list at index k
abbrev pub numbered : List (List Point) → ℕ → List Point
numbered kept number = get_or (one_place ∷ kept) number []

-- no displacement
abbrev pub origin : Point
origin = record { x = pos 0; y = pos 0 }

-- the displacement with a number: 0 means none, k + 1 the kept one at index k
abbrev pub displaced : List Point → ℕ → Point
displaced moves number = get_or (origin ∷ moves) number origin

-- the rings with an index from `begin` up to `end`, which is excluded, each point moved
abbrev pub figure_in : Rings → ℕ → ℕ → Point → Rings
figure_in rings begin end by = map (map (shifted by)) (take (end - begin) (drop begin rings))

-- the rings, which were moved by `by`, fit in 64 signed bits, unless `by` is zero
abbrev pub FitsMoved : Point → Rings → Type 0
FitsMoved by figure = (by ≡ origin) ⊎ All (All FitsPoint) figure

-- the points are a ring that, moved by `by`, fits in 64 signed bits, unless `by` is zero
pub record IsMovable (by : Point) (points : List Point) : Type 0 where
  pub ring : IsRing points
  pub fits : (by ≡ origin) ⊎ All FitsPoint (map (shifted by) points)

-- the ring is the kept one moved by `by`, and it fits in 64 signed bits
pub record IsAgain (kept : List Point) (by : Point) (ring : List Point) : Type 0 where
  pub is : map (shifted by) kept ≡ ring
  pub fits : All FitsPoint ring

-- the indexes of the span are in the list of rings and below 2^32
pub record IsStretch (rings : Rings) (s : Span) : Type 0 where
  pub order : s.begin ≤ s.end
  pub inside : s.end ≤ length rings
  pub few : s.end < 2 ^ 32

-- the kept figure f means this figure: some of the rings, moved
pub record IsFigure (rings : Rings) (f : KeptFigure) (figure : Rings) : Type 0 where
  pub order : f.begin ≤ f.end
  pub inside : f.end ≤ length rings
  pub few : f.end < 2 ^ 32
  pub is : figure_in rings f.begin f.end f.by ≡ figure
  pub fits : FitsMoved f.by figure

-- the shape that a span means, given the rings, the displacements and the lists of shifts that are kept
abbrev pub shape_in : Rings → List Point → List (List Point) → Span → PlainShape Rings
shape_in rings moves kept s = record {
  layer = s.layer;
  figure = figure_in rings s.begin s.end (displaced moves s.moved);
  shifts = numbered kept s.shifts;
}

-- the indexes and numbers of the span are those of kept items, and its moved figure fits in 64 signed bits
pub record IsSpan (rings : Rings) (moves : List Point) (kept : List (List Point)) (s : Span) : Type 0 where
  pub stretch : IsStretch rings s
  pub moved : s.moved < length moves + 1
  pub shifts : s.shifts < length kept + 1
  pub fits : FitsMoved (displaced moves s.moved) (figure_in rings s.begin s.end (displaced moves s.moved))

-- the new list begins with the old one
abbrev pub IsPrefixOf : {X : Type 0} → List X → List X → Type 0
IsPrefixOf old new = take (length old) new ≡ old

-- the list of shifts has that number
pub record HasNumber (kept : List (List Point)) (number : ℕ) (shifts : List Point) : Type 0 where
  pub within : number < length kept + 1
  pub is : numbered kept number ≡ shifts

-- the displacement has that number
pub record HasMove (moves : List Point) (number : ℕ) (by : Point) : Type 0 where
  pub within : number < length moves + 1
  pub is : displaced moves number ≡ by
