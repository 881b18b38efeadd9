use Rattle.std.proofs.Common.{take}
use Rattle.lvl_simplify.proofs.Teeth.{Teeth}
use Rattle.lvl_simplify.proofs.redraw.drawn.Given as goal

-- the points so far are the teeth of the edges so far
abbrev pub invariant-loop-upright : goal.invariant-loop-upright
invariant-loop-upright l = Teeth l.left (take l.upright-index l.uprights) l.points.items
