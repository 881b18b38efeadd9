use Rattle.std.proofs.Common.{◌≡◌, ◌++◌, take}
use Rattle.lvl_cells.proofs.outlines.Outlines.push_all.Given as goal

-- the rings so far are added
abbrev pub invariant-loop-ring : goal.invariant-loop-ring
invariant-loop-ring l = l.self ≡ l.initial.self ++ take l.ring-index l.rings
