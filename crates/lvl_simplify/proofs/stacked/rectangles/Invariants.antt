use Rattle.std.proofs.Common.{◌↔◌, ◌⊎◌, take}
use Rattle.lvl_grid.specs.declared.point.Square.{Square}
use Rattle.lvl_grid.specs.Winding.{SomeCovers}
use Rattle.lvl_simplify.specs.Spanning.{IsWithinSome}
use Rattle.lvl_simplify.proofs.stacked.rectangles.Given as goal

-- the rings so far are among the windows, or among the rest
abbrev pub invariant-loop-i : goal.invariant-loop-i
invariant-loop-i l =
    (s : Square) → (SomeCovers l.rest s ⊎ IsWithinSome l.windows.items s) ↔ SomeCovers (take l.i l.rings) s
