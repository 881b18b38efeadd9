use Rattle.std.proofs.Common.{◌↔◌, ◌⊎◌, take}
use Rattle.lvl_grid.specs.declared.point.Square.{Square}
use Rattle.lvl_grid.specs.Winding.{SomeCovers}
use Rattle.lvl_simplify.specs.Spanning.{IsWithinSome}
use Rattle.lvl_simplify.proofs.spanning.push_windows.Given as goal

-- the rings cover the windows so far
abbrev pub invariant-loop-window : goal.invariant-loop-window
invariant-loop-window l =
    (s : Square) → SomeCovers l.rings s ↔ (SomeCovers l.fn.rings s ⊎ IsWithinSome (take l.window-index l.windows) s)
