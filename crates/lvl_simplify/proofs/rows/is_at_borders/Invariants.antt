use Rattle.std.proofs.Common.{All, take}
use Rattle.lvl_simplify.specs.Rows.{IsAtBorder}
use Rattle.lvl_simplify.proofs.rows.is_at_borders.Given as goal

-- the points so far are at the borders
abbrev pub invariant-loop-point : goal.invariant-loop-point
invariant-loop-point l = All (IsAtBorder l.left l.right) (take l.point-index l.ring)
