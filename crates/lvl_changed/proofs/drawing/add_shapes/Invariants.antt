use Rattle.std.proofs.Common.{take}
use Rattle.lvl_grid.specs.declared.point.Square.{Square}
use Rattle.lvl_names.specs.declared.layer.Layer.{Layer}
use Rattle.lvl_changed.specs.inside.Layers.{IsOn, Spreads}
use Rattle.lvl_changed.specs.inside.Shapes.{ShapesCover}
use Rattle.lvl_changed.proofs.drawing.add_shapes.Given as goal

-- the Layers of the shapes so far are added
abbrev pub invariant-loop-i : goal.invariant-loop-i
invariant-loop-i l = record {
  added : (layer : Layer) (s : Square) → ShapesCover (take l.i l.shapes) layer s → IsOn l.layers layer;
  kept : Spreads l.initial.layers l.layers;
}
