use Rattle.std.proofs.Common.{vec_len}
use Rattle.lvl_changed.specs.inside.Windows.{Widens}
use Rattle.lvl_changed.proofs.windows.Windows.condense.Given as goal

-- no square is lost
abbrev pub invariant-loop-self : goal.invariant-loop-self
invariant-loop-self l = Widens l.initial.self l.self

-- a window fewer
abbrev pub decreases-loop-self : goal.decreases-loop-self
decreases-loop-self l = vec_len l.self.list
