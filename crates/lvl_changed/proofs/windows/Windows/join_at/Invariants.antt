use Rattle.std.proofs.Common.{◌≤◌, vec_len}
use Rattle.lvl_changed.specs.inside.Windows.{Widens}
use Rattle.lvl_changed.proofs.windows.Windows.join_at.Given as goal

-- no square is lost, and there aren't more windows
abbrev pub invariant-loop-i : goal.invariant-loop-i
invariant-loop-i l = Widens l.initial.self l.self × (vec_len l.self.list ≤ vec_len l.initial.self.list)
