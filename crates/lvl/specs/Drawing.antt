-- Cells as files spell them, whatever the format.
use Rattle.lvl_path.specs.Figure.{Figure}
use Rattle.lvl_cells.specs.Cells.{PlainCell}

-- a cell whose shapes are figures: rings, or paths
abbrev pub Drawing : Type 0
Drawing = PlainCell Figure
