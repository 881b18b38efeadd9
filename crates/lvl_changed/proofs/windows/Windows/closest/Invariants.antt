use Rattle.std.proofs.Common.{◌<◌, ◌+◌, vec_len}
use Rattle.std.specs.Prelude.{IfSome}
use Rattle.lvl_changed.proofs.windows.Windows.closest.Given as goal

-- what is found is the index of a window that has a next
abbrev pub invariant-loop-i : goal.invariant-loop-i
invariant-loop-i l = IfSome l.closest (λ i. i + 1 < vec_len l.self.list)
