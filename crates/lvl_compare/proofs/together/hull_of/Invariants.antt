use Rattle.std.proofs.Common.{take}
use Rattle.lvl_grid.specs.declared.point.Square.{Square}
use Rattle.lvl_grid.specs.Clip.{IsInWindow}
use Rattle.lvl_compare.specs.Parts.{SomeHas}
use Rattle.lvl_compare.proofs.together.hull_of.Given as goal

-- the hull has all squares of the windows so far
abbrev pub invariant-loop-window : goal.invariant-loop-window
invariant-loop-window l = (s : Square) → SomeHas (take l.window-index l.windows) s → IsInWindow l.hull s
