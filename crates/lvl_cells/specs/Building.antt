-- The state of a builder of a library.
use Rattle.std.specs.Prelude.{List, [], ◌∷◌, ◌++◌}
use Rattle.lvl_cells.specs.Cells.{PlainShape, PlainReference, PlainCell, Rings}

-- the cells that are finished, and the one that is open
pub record Built : Type 0 where
  pub cells : List (PlainCell Rings)
  pub current : PlainCell Rings

-- a cell without a name, shapes and references
abbrev pub no_cell : PlainCell Rings
no_cell = record { name = []; shapes = []; references = [] }

-- the cell with one more shape at the end
abbrev pub with_shape : PlainCell Rings → PlainShape Rings → PlainCell Rings
with_shape c s = record { name = c.name; shapes = c.shapes ++ s ∷ []; references = c.references }

-- the cell with one more reference at the end
abbrev pub with_reference : PlainCell Rings → PlainReference → PlainCell Rings
with_reference c r = record { name = c.name; shapes = c.shapes; references = c.references ++ r ∷ [] }
