use Rattle.std.proofs.Common.{◌↔◌, take}
use Rattle.lvl_grid.specs.declared.point.Square.{Square}
use Rattle.lvl_grid.specs.Winding.{SomeCovers}
use Rattle.lvl_cells.specs.Cells.{shape_at}
use Rattle.lvl_changed.proofs.figures.are_same_figures.Given as goal

-- the rings so far cover the same
abbrev pub invariant-loop-k : goal.invariant-loop-k
invariant-loop-k l =
    (s : Square) → SomeCovers (take l.k (shape_at l.first l.i).figure) s
    ↔ SomeCovers (take l.k (shape_at l.second l.j).figure) s
