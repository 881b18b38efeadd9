use Rattle.std.proofs.Common.{◌≡◌, take}
use Rattle.lvl_compare.proofs.regions.each_ring.Given as goal

abbrev pub invariant-loop-i : goal.invariant-loop-i
invariant-loop-i l = l.list.items ≡ take l.i l.fn.rings
