use Rattle.std.proofs.Common.{◌≡◌, ◌+ℤ◌, ◌-ℤ◌, pos, take}
use Rattle.lvl_grid.specs.declared.point.Square.{Square}
use Rattle.lvl_simplify.specs.Redraw.{if_right, count_to, winding_by}
use Rattle.lvl_simplify.proofs.redraw.paired.Given as goal

-- the edges so far are the given ones and those from the beginnings so far to the ends with the same indexes
abbrev pub invariant-loop-i : goal.invariant-loop-i
invariant-loop-i l =
    (s : Square)
    → winding_by s l.uprights.items
    ≡ winding_by s l.fn.uprights.items
    +ℤ if_right s l.right
    (pos (count_to s.y (take l.i l.ends.begins.items)) -ℤ pos (count_to s.y (take l.i l.ends.ends.items)))
