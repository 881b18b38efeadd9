-- Arrays as rows.
use Rattle.std.specs.Prelude.{◌≡◌, ◌↔◌, ◌⊎◌, ◌<◌, ◌*ℤ◌, ℕ, pos, List, Contains}
use Rattle.lvl_grid.specs.declared.point.Point.{Point}
use Rattle.lvl_grid.specs.declared.point.Square.{Square}
use Rattle.lvl_grid.specs.Turn.{shifted}
use Rattle.lvl_names.specs.declared.layer.Layer.{Layer}
use Rattle.lvl_cells.specs.Cells.{PlainCell, Rings}
use Rattle.lvl_changed.specs.declared.arrays.Array.{Array}
use Rattle.lvl_changed.specs.declared.lattices.Rows.{Rows}
use Rattle.lvl_changed.specs.inside.Arrays.{each_place, every_place}
use Rattle.lvl_changed.specs.inside.Placements.{PlacedCover}

-- so many steps
abbrev pub scaled : Point → ℕ → Point
scaled step n = record { x = pos n *ℤ step.x; y = pos n *ℤ step.y }

-- n shifts that are steps by a from zero on are those by b from d on
pub record IsSameLine (a : Point) (n : ℕ) (d b : Point) : Type 0 where
  pub to : (i : ℕ) → i < n → (k : ℕ) × (k < n) × (scaled a i ≡ shifted d (scaled b k))
  pub from : (k : ℕ) → k < n → (i : ℕ) × (i < n) × (scaled a i ≡ shifted d (scaled b k))

-- the shift is one of row j
abbrev pub IsInRow : Rows → ℕ → Point → Type 0
IsInRow rows j e = (f : Point) × Contains rows.line f × (shifted (scaled rows.up j) f ≡ e)

-- the rows have the shifts, and no others
abbrev pub AreRowsOf : List Point → Rows → Type 0
AreRowsOf shifts rows = (e : Point) → Contains shifts e ↔ ((j : ℕ) × (j < rows.count) × IsInRow rows j e)

-- row j of an array
abbrev pub row_at : Array → Rows → ℕ → Array
row_at a rows j = record {
  cell = a.cell;
  by = record { flip = a.by.flip; turn = a.by.turn; at = shifted a.by.at (scaled rows.up j) };
  shifts = rows.line;
}

-- one of the first n rows covers the square
abbrev pub RowsCover : List (PlainCell Rings) → Array → Rows → ℕ → Layer → Square → Type 0
RowsCover cells a rows n layer s = (j : ℕ) × (j < n) × PlacedCover cells (each_place (row_at a rows j)) layer s

-- the new arrays cover what the old ones or the array do
abbrev pub AddsRows : List Array → List Array → Array → Type 0
AddsRows old new a =
    (cells : List (PlainCell Rings)) (layer : Layer) (s : Square)
    → PlacedCover cells (every_place new) layer s
    ↔ (PlacedCover cells (every_place old) layer s ⊎ PlacedCover cells (each_place a) layer s)

-- `split` covers a part of what the arrays cover, and all that the others don't
pub record AreSplit (arrays others split : List Array) : Type 0 where
  pub held : (cells : List (PlainCell Rings)) (layer : Layer) (s : Square)
      → PlacedCover cells (every_place arrays) layer s
      → PlacedCover cells (every_place split) layer s ⊎ PlacedCover cells (every_place others) layer s
  pub inside : (cells : List (PlainCell Rings)) (layer : Layer) (s : Square)
      → PlacedCover cells (every_place split) layer s → PlacedCover cells (every_place arrays) layer s
