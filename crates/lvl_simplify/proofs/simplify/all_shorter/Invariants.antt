use Rattle.std.proofs.Common.{◌↔◌, take}
use Rattle.lvl_grid.specs.declared.point.Square.{Square}
use Rattle.lvl_grid.specs.Winding.{SomeCovers}
use Rattle.lvl_simplify.proofs.simplify.all_shorter.Given as goal

-- the rings so far cover the same squares
abbrev pub invariant-loop-i : goal.invariant-loop-i
invariant-loop-i l = (s : Square) → SomeCovers l.shorter s ↔ SomeCovers (take l.i l.fn.rings) s
