-- What the own shapes of a cell cover.
use Rattle.std.specs.Prelude.{◌↔◌, List, Any}
use Rattle.lvl_grid.specs.declared.point.Square.{Square}
use Rattle.lvl_grid.specs.declared.point.Window.{Window}
use Rattle.lvl_grid.specs.declared.point.Point.{Point}
use Rattle.lvl_grid.specs.Winding.{Covers, SomeCovers}
use Rattle.lvl_names.specs.Shifts.{IsBetween}
use Rattle.lvl_names.specs.declared.layer.Layer.{Layer}
use Rattle.lvl_cells.specs.Cells.{PlainShape, Rings}
use Rattle.lvl_cells.specs.Coverage.{moved_back, ShapeCovers}
use Rattle.lvl_flat.specs.declared.bounds.Bounds.{Bounds}
use Rattle.lvl_flat.specs.Sheet.{PlainSheet}
use Rattle.lvl_flat.specs.Sheets.{rings_on}
use Rattle.lvl_changed.specs.declared.area.Area.{Area}
use Rattle.lvl_changed.specs.inside.Areas.{IsIn}

-- at least one of the shapes covers the square on the Layer
abbrev pub ShapesCover : List (PlainShape Rings) → Layer → Square → Type 0
ShapesCover shapes layer s = Any (ShapeCovers SomeCovers layer s) shapes

-- the figure of the shape, moved by one of its shifts, covers the square
abbrev pub FigureCovers : PlainShape Rings → Square → Type 0
FigureCovers h s = Any (λ e. SomeCovers h.figure (moved_back e s)) h.shifts

-- the shape on another Layer
abbrev pub put_on : Layer → PlainShape Rings → PlainShape Rings
put_on layer h = record { layer = layer; figure = h.figure; shifts = h.shifts }

-- the flat layout covers the square on the Layer
abbrev pub FlatCovers : List PlainSheet → Layer → Square → Type 0
FlatCovers flat layer s = SomeCovers (rings_on layer flat) s

-- both flat layouts cover the same squares outside of the area, on the Layer
abbrev pub LayerAlike : Area → List PlainSheet → List PlainSheet → Layer → Type 0
LayerAlike w a b layer = (s : Square) → (¬ IsIn w layer s) → FlatCovers a layer s ↔ FlatCovers b layer s

-- the box between the corners of a window
abbrev pub corners : Window → Bounds
corners w = record { low = record { x = w.x0; y = w.y0 }; high = record { x = w.x1; y = w.y1 } }

-- P holds for all squares that the ring covers after a move by a displacement between the two corners
abbrev pub HasMoved : List Point → Point → Point → (Square → Type 0) → Type 0
HasMoved ring low high P = (e : Point) (s : Square) → IsBetween low high e → Covers ring (moved_back e s) → P s
