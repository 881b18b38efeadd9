-- Cells of figures, as a stream spells them (GDSII Stream Format Manual, Release 6, a structure from BGNSTR to ENDSTR),
-- and cells of rings, as they are kept.
use Rattle.lvl_path.specs.Figure.{Figure}
use Rattle.lvl_cells.specs.Cells.{PlainShape, PlainCell, Rings}

-- a cell as a stream spells it
abbrev pub Drawing : Type 0
Drawing = PlainCell Figure

-- a shape and a cell as they are kept
abbrev pub KeptShape : Type 0
KeptShape = PlainShape Rings

abbrev pub KeptCell : Type 0
KeptCell = PlainCell Rings
