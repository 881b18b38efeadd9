use Rattle.std.proofs.Common.{◌↔◌, ◌⊎◌, take}
use Rattle.lvl_grid.specs.declared.point.Square.{Square}
use Rattle.lvl_names.specs.declared.layer.Layer.{Layer}
use Rattle.lvl_cells.specs.Cells.{shape_at}
use Rattle.lvl_changed.specs.inside.Shapes.{put_on, ShapesCover}
use Rattle.lvl_changed.proofs.Leaving.{RingsCover}
use Rattle.lvl_changed.proofs.left.push_shape.Given as goal

-- the rings so far are added
abbrev pub invariant-loop-j : goal.invariant-loop-j
invariant-loop-j l =
    (layer : Layer) (s : Square)
    → ShapesCover l.left layer s
    ↔ (ShapesCover l.initial.left layer s
    ⊎ RingsCover (put_on l.on (shape_at l.shapes l.i)) (take l.j (shape_at l.shapes l.i).figure) layer s)
