use Rattle.std.proofs.Common.{◌≡◌, take}
use Rattle.lvl_cells.proofs.few_shapes.FewShapes.lists.Given as goal

-- the shapes so far
abbrev pub invariant-loop-i : goal.invariant-loop-i
invariant-loop-i l = l.lists ≡ take l.i l.self
