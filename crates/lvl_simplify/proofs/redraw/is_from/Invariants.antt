use Rattle.std.proofs.Common.{All, take}
use Rattle.lvl_simplify.specs.Redraw.{NotLeftOf}
use Rattle.lvl_simplify.proofs.redraw.is_from.Given as goal

-- the points so far aren't left of the abscissa
abbrev pub invariant-loop-point : goal.invariant-loop-point
invariant-loop-point l = All (NotLeftOf l.left) (take l.point-index l.ring)
