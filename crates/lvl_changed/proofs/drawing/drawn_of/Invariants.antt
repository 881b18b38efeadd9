use Rattle.std.proofs.Common.{◌≡◌, Some, slice_get, take}
use Rattle.lvl_grid.specs.declared.point.Square.{Square}
use Rattle.lvl_names.specs.declared.layer.Layer.{Layer}
use Rattle.lvl_cells.specs.Cells.{PlainCell, Rings}
use Rattle.lvl_changed.specs.inside.Drawing.{AreDrawnOn}
use Rattle.lvl_changed.specs.inside.Layers.{IsOn}
use Rattle.lvl_changed.specs.inside.Placements.{ReferencesCover}
use Rattle.lvl_changed.specs.inside.Shapes.{ShapesCover}
use Rattle.lvl_changed.proofs.drawing.drawn_of.Given as goal

-- the Layers of the shapes and of the references so far are added
abbrev pub invariant-loop-j : goal.invariant-loop-j
invariant-loop-j l = record {
  own : (c : PlainCell Rings) (layer : Layer) (s : Square) → slice_get l.checked.cells l.cell ≡ Some c
      → ShapesCover c.shapes layer s → IsOn l.layers layer;
  placed : AreDrawnOn l.checked.cells l.drawn → (c : PlainCell Rings) (layer : Layer) (s : Square)
      → slice_get l.checked.cells l.cell ≡ Some c
      → ReferencesCover l.checked.cells (take l.j c.references) layer s → IsOn l.layers layer;
}
