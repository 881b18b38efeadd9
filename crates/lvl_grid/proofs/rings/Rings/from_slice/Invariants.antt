use Rattle.std.proofs.Common.{◌≡◌, take}
use Rattle.lvl_grid.proofs.rings.Rings.from_slice.Given as goal

abbrev pub invariant-loop-ring : goal.invariant-loop-ring
invariant-loop-ring l = l.rings ≡ take l.ring-index l.slice
