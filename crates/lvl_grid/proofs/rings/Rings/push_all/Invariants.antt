use Rattle.std.proofs.Common.{◌≡◌, ◌++◌, take}
use Rattle.lvl_grid.proofs.rings.Rings.push_all.Given as goal

-- the rings so far are appended
abbrev pub invariant-loop-ring : goal.invariant-loop-ring
invariant-loop-ring l = l.self ≡ l.initial.self ++ take l.ring-index l.slice
