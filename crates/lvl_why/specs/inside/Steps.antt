-- Steps within a library.
use Rattle.std.specs.Prelude.{◌<◌, List, length}
use Rattle.lvl_cells.specs.Cells.{PlainCell, Rings}
use Rattle.lvl_witness.specs.declared.witness.Step.{Step}

-- the step places one of the cells
abbrev pub IsWithin : List (PlainCell Rings) → Step → Type 0
IsWithin cells step = step.cell < length cells
