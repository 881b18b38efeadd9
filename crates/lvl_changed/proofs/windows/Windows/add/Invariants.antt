use Rattle.std.proofs.Common.{◌⊎◌, vec_len}
use Rattle.lvl_grid.specs.declared.point.Square.{Square}
use Rattle.lvl_grid.specs.Clip.{IsInWindow}
use Rattle.lvl_changed.specs.inside.Windows.{Has}
use Rattle.lvl_changed.proofs.windows.Windows.add.Given as goal

-- no square is lost
abbrev pub invariant-loop-i : goal.invariant-loop-i
invariant-loop-i l =
    (s : Square) → (Has l.initial.self s ⊎ IsInWindow l.initial.whole s) → Has l.self s ⊎ IsInWindow l.whole s

-- fewer windows are left
abbrev pub decreases-loop-i : goal.decreases-loop-i
decreases-loop-i l = vec_len l.self.list
