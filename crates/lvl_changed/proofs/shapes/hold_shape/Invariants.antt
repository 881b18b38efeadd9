use Rattle.std.proofs.Common.{take}
use Rattle.lvl_grid.specs.declared.point.Square.{Square}
use Rattle.lvl_names.specs.declared.layer.Layer.{Layer}
use Rattle.lvl_cells.specs.Cells.{shape_at}
use Rattle.lvl_view.specs.Views.{target_of}
use Rattle.lvl_changed.specs.inside.Areas.{Grows, IsIn}
use Rattle.lvl_changed.proofs.Leaving.{RingsCover}
use Rattle.lvl_changed.proofs.shapes.hold_shape.Given as goal

-- the area has what the rings so far cover
abbrev pub invariant-loop-j : goal.invariant-loop-j
invariant-loop-j l = record {
  held : (layer : Layer) (s : Square) → (¬ IsIn l.area (target_of l.view.pairs layer) s)
      → ¬ RingsCover (shape_at l.shapes l.i) (take l.j (shape_at l.shapes l.i).figure) layer s;
  kept : Grows l.initial.area l.area;
}
