use Rattle.std.proofs.Common.{◌↔◌, take}
use Rattle.lvl_grid.specs.declared.point.Square.{Square}
use Rattle.lvl_grid.specs.Winding.{SomeCovers}
use Rattle.lvl_grid.specs.Clip.{IsIn}
use Rattle.lvl_corners.proofs.columns.clipped.Given as goal

-- the rings so far are clipped
abbrev pub invariant-loop-i : goal.invariant-loop-i
invariant-loop-i l =
    (s : Square) → SomeCovers l.clipped s ↔ (IsIn l.part s × SomeCovers (take l.i l.rings) s)
