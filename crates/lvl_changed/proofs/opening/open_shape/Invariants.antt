use Rattle.std.proofs.Common.{◌≡◌, take, true}
use Rattle.lvl_cells.specs.Cells.{shape_at}
use Rattle.lvl_changed.specs.inside.Opening.{Adds, IsUnder}
use Rattle.lvl_changed.specs.inside.Shapes.{FigureCovers, ShapesCover}
use Rattle.lvl_changed.proofs.Under.{with_rings}
use Rattle.lvl_changed.proofs.opening.open_shape.Given as goal

-- the rings so far are added
abbrev pub invariant-loop-j : goal.invariant-loop-j
invariant-loop-j l =
    Adds (ShapesCover l.initial.opened) (ShapesCover l.opened)
    (λ layer s. (l.fn.on ≡ layer) × IsUnder l.array
    (FigureCovers (with_rings (shape_at l.shapes l.i) (take l.j (shape_at l.shapes l.i).figure))) s) true
