-- A grid of lines, with a truth value for each cell. A cell is the rectangle between consecutive lines.
use Rattle.std.specs.Prelude.{ℕ, Bool, false, List, [], ◌∷◌, map, ℤ, int_le, count_by, slice_index_or, IsTrue, ◌↔◌, All}
use Rattle.std.specs.Prelude.{◌≡◌, Contains, Any}
use Rattle.std.specs.Global.{Vec}
use Rattle.std.specs.List.{AllZip}
use Rattle.std.specs.Ordering.{int_cmp}
use Rattle.std.specs.List.Sorted.{IsStrictlySortedBy}
use Rattle.lvl_grid.specs.declared.point.Point.{Point}
use Rattle.lvl_grid.specs.declared.point.Square.{Square}
use Rattle.lvl_region.specs.declared.lines.Axis.{Axis}
use Rattle.lvl_region.specs.declared.lines.Axis.TheVariants.{X, Y}
use Rattle.lvl_region.specs.Region.{SomeCovers}

-- the number of lines that are at most v
abbrev pub passed : List ℤ → ℤ → ℕ
passed lines v = count_by (λ a. int_le a v) lines

-- the value at v: the value of each line holds from it up to the next line, and d holds before the first
abbrev pub value_at : {A : Type 0} → A → List ℤ → List A → ℤ → A
value_at d lines cells v = slice_index_or (d ∷ cells) (passed lines v) d

-- the cell that has the square is marked
unfoldable pub IsMarked : List ℤ → List ℤ → List (Vec Bool) → Square → Type 0
IsMarked xs ys rows s = IsTrue (value_at false xs (value_at [] ys (map (λ row. row.items) rows) s.y) s.x)

-- the coordinate of a point along an axis
abbrev pub along : Axis → Point → ℤ
along X p = p.x
along Y p = p.y

-- a line goes through each vertex of the rings
unfoldable pub HasPlaces : Axis → List ℤ → List (List Point) → Type 0
HasPlaces axis lines rings = All (λ ring. All (λ p. Contains lines (along axis p)) ring) rings

-- some vertex of the rings has the coordinate v along the axis
abbrev pub HasVertexAt : Axis → List (List Point) → ℤ → Type 0
HasVertexAt axis rings v = Any (λ ring. Any (λ p. along axis p ≡ v) ring) rings

-- the lines are in increasing order, one goes through each vertex, and each goes through some vertex
pub record AreLinesOf (rings : List (List Point)) (axis : Axis) (lines : List ℤ) : Type 0 where
  pub rising : IsStrictlySortedBy int_cmp lines
  pub through : HasPlaces axis lines rings
  pub only : All (HasVertexAt axis rings) lines

-- for each line x, the cell says whether some ring covers the square (x, y)
unfoldable pub IsRowOf : List (List Point) → List ℤ → ℤ → List Bool → Type 0
IsRowOf rings xs y cells = AllZip (λ x cell. IsTrue cell ↔ SomeCovers rings (record { x = x; y = y })) xs cells

-- for each line y, there is such a row of cells
unfoldable pub AreRowsOf : List (List Point) → List ℤ → List ℤ → List (Vec Bool) → Type 0
AreRowsOf rings xs ys rows = AllZip (λ y row. IsRowOf rings xs y row.items) ys rows
