use Rattle.std.proofs.Common.{◌≡◌, take}
use Rattle.lvl_columns.proofs.columns.copied.Given as goal

abbrev pub invariant-loop-i : goal.invariant-loop-i
invariant-loop-i l = l.copy ≡ take l.i l.rings
