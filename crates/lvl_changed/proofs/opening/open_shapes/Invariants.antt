use Rattle.std.proofs.Common.{take, true}
use Rattle.lvl_view.specs.Moved.{IsMoved}
use Rattle.lvl_changed.specs.inside.Opening.{Adds, IsUnder}
use Rattle.lvl_changed.specs.inside.Shapes.{ShapesCover}
use Rattle.lvl_changed.proofs.opening.open_shapes.Given as goal

-- the shapes so far are added
abbrev pub invariant-loop-i : goal.invariant-loop-i
invariant-loop-i l =
    Adds (ShapesCover l.initial.opened) (ShapesCover l.opened)
    (IsMoved l.view.pairs (λ layer. IsUnder l.array (ShapesCover (take l.i l.shapes) layer))) true
