use Rattle.std.proofs.Common.{◌↔◌, take}
use Rattle.lvl_grid.specs.declared.point.Square.{Square}
use Rattle.lvl_simplify.specs.Spanning.{IsWithinSome}
use Rattle.lvl_simplify.proofs.spanning.joined_in_order.Given as goal

-- the windows so far are joined
abbrev pub invariant-loop-window : goal.invariant-loop-window
invariant-loop-window l =
    (s : Square) → IsWithinSome l.joined.items s ↔ IsWithinSome (take l.window-index l.windows) s
