use Rattle.std.proofs.Common.{take}
use Rattle.lvl_columns.specs.Left.{IsLeft}
use Rattle.lvl_columns.proofs.cancel.left_of.Given as goal

-- those of the rings so far are left
abbrev pub invariant-loop-i : goal.invariant-loop-i
invariant-loop-i l = IsLeft (take l.i l.rings) l.others l.left
