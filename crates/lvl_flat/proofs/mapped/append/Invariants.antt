use Rattle.std.proofs.Common.{◌≡◌, ◌++◌, take}
use Rattle.lvl_flat.proofs.mapped.append.Given as goal

-- the rings so far are appended, in order
abbrev pub invariant-loop-i : goal.invariant-loop-i
invariant-loop-i l = l.rings ≡ l.initial.rings ++ take l.i l.fn.more
