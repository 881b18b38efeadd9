use Rattle.std.proofs.Common.{take}
use Rattle.lvl_grid.specs.declared.point.Square.{Square}
use Rattle.lvl_names.specs.declared.layer.Layer.{Layer}
use Rattle.lvl_changed.specs.inside.Shapes.{ShapesCover}
use Rattle.lvl_view.specs.Views.{target_of}
use Rattle.lvl_changed.specs.inside.Areas.{Grows, IsIn}
use Rattle.lvl_changed.proofs.shapes.hold_extents.Given as goal

-- the area has what the shapes so far cover
abbrev pub invariant-loop-i : goal.invariant-loop-i
invariant-loop-i l = record {
  held : (layer : Layer) (s : Square) → (¬ IsIn l.area (target_of l.view.pairs layer) s) → ¬ ShapesCover (take l.i l.shapes) layer s;
  kept : Grows l.initial.area l.area;
}
