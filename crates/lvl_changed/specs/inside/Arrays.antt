-- Arrays: cells that are placed, each at all of a list of shifts.
use Rattle.std.specs.Prelude.{◌≡◌, ◌↔◌, ◌⊎◌, ◌++◌, ◌∷◌, ℕ, List, [], flat_map, slice_get, Some, Contains}
use Rattle.lvl_grid.specs.declared.point.Point.{Point}
use Rattle.lvl_grid.specs.declared.point.Square.{Square}
use Rattle.lvl_grid.specs.declared.point.Window.{Window}
use Rattle.lvl_grid.specs.Clip.{IsInWindow}
use Rattle.lvl_grid.specs.Turn.{image, image_square, shifted}
use Rattle.lvl_names.specs.declared.layer.Layer.{Layer}
use Rattle.lvl_cells.specs.Cells.{PlainCell, PlainReference, Rings, map_at}
use Rattle.lvl_changed.specs.declared.arrays.Array.{Array}
use Rattle.lvl_changed.specs.declared.placed.Placed.{Placed}
use Rattle.lvl_changed.specs.declared.placements.Placement.{Placement}
use Rattle.lvl_changed.specs.inside.Placements.{placed, PlacedCover, ReferencesCover}
use Rattle.lvl_changed.specs.inside.Shifts.{AreMovedBy, AreSums}

-- the array as a reference, to a cell of no name
abbrev pub as_reference : Array → PlainReference
as_reference a = record { cell = []; flip = a.by.flip; turn = a.by.turn; at = a.by.at; shifts = a.shifts }

-- the cell of the array, placed at each of its places
abbrev pub each_place : Array → List Placement
each_place a = placed a.cell (as_reference a)

-- the cells of all arrays, each placed at each of its array's places
abbrev pub every_place : List Array → List Placement
every_place arrays = flat_map each_place arrays

-- all that is placed, in arrays or not
abbrev pub all_places : Placed → List Placement
all_places p = p.singles.items ++ every_place p.arrays.items

-- the reference j of cell i covers what the array does
abbrev pub IsArrayOf : List (PlainCell Rings) → ℕ → ℕ → Array → Type 0
IsArrayOf cells i j a =
    (c : PlainCell Rings) (r : PlainReference) → slice_get cells i ≡ Some c → slice_get c.references j ≡ Some r
    → (layer : Layer) (s : Square)
    → PlacedCover cells (each_place a) layer s ↔ ReferencesCover cells (r ∷ []) layer s

-- the first map is the second after the third, and the places are the sums of theirs
pub record IsThrough (outer inner whole : Array) : Type 0 where
  pub cell : whole.cell ≡ inner.cell
  pub by : (p : Point) → image whole.by p ≡ image outer.by (image inner.by p)
  pub shifts : AreSums outer.by outer.shifts inner.shifts whole.shifts

-- the second array has the places of the first, from another one on
abbrev pub IsRebased : Array → Array → Type 0
IsRebased a b =
    (d : Point) × (b ≡ record {
      cell = a.cell;
      by = record { flip = a.by.flip; turn = a.by.turn; at = shifted a.by.at d };
      shifts = b.shifts;
    }) × AreMovedBy d a.shifts b.shifts

-- the new placements cover what the old ones or the array do
abbrev pub AddsArray : List Placement → List Placement → Array → Type 0
AddsArray old new a =
    (cells : List (PlainCell Rings)) (layer : Layer) (s : Square)
    → PlacedCover cells new layer s ↔ (PlacedCover cells old layer s ⊎ PlacedCover cells (each_place a) layer s)

-- the new placements cover what the old ones or the others do
abbrev pub AddsArrays : List Placement → List Placement → List Placement → Type 0
AddsArrays old new others =
    (cells : List (PlainCell Rings)) (layer : Layer) (s : Square)
    → PlacedCover cells new layer s ↔ (PlacedCover cells old layer s ⊎ PlacedCover cells others layer s)

-- the window has the images of the other window's squares, at each place of the array
abbrev pub HasEach : Array → Window → (Square → Type 0) → Type 0
HasEach a w P =
    (e : Point) → Contains a.shifts e → (s : Square) → IsInWindow w s → P (image_square (map_at (as_reference a) e) s)

-- a square that the new placements cover where the old ones do, and where the arrays do but the others don't, and only
-- where the old ones or the arrays do
pub record IsListed (cells : List (PlainCell Rings)) (old new : List Placement) (arrays others : List Array)
    (layer : Layer) (s : Square) : Type 0 where
  pub grown : PlacedCover cells old layer s → PlacedCover cells new layer s
  pub held : PlacedCover cells (every_place arrays) layer s
      → PlacedCover cells new layer s ⊎ PlacedCover cells (every_place others) layer s
  pub inside : PlacedCover cells new layer s
      → PlacedCover cells old layer s ⊎ PlacedCover cells (every_place arrays) layer s

-- that holds of all squares
abbrev pub AreListed : List Placement → List Placement → List Array → List Array → Type 0
AreListed old new arrays others =
    (cells : List (PlainCell Rings)) (layer : Layer) (s : Square) → IsListed cells old new arrays others layer s
