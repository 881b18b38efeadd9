-- What libraries with boxes, and flat layouts, keep to themselves.
use Rattle.std.specs.Prelude.{◌≡◌, List, Option, []}
use Rattle.lvl_cells.specs.Cells.{Rings}
use Rattle.lvl_cells.specs.Checks.{Settled}
use Rattle.lvl_flat.specs.Boxes.{AreBoxes}
use Rattle.lvl_flat.specs.declared.bounds.Bounds.{Bounds}
use Rattle.lvl_flat.specs.Flattened.{IsTopInRange}
use Rattle.lvl_flat.specs.Sheet.{PlainSheet}
use Rattle.lvl_flat.specs.Sheets.{IsInOrder}

-- the boxes are those of the cells, and the top places nothing outside 64 bits
pub record IsFitted (s : Settled) (boxes : List (Option Bounds)) : Type 0 where
  pub boxes_are : AreBoxes s.cells boxes
  pub in_range : IsTopInRange s

-- the sheets are in order, and the rings of a Layer that has no sheet are none
pub record IsFlat (sheets : List PlainSheet) (none : Rings) : Type 0 where
  pub in_order : IsInOrder sheets
  pub none_are : none ≡ []
