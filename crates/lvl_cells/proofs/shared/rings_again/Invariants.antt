use Rattle.std.proofs.Common.{◌+◌, ℕ, [], get_or, ◌<◌}
use Rattle.lvl_cells.specs.inside.Spans.{IsAgain}
use Rattle.lvl_cells.proofs.shared.rings_again.Given as goal

-- the rings so far are the kept ones, moved
abbrev pub invariant-loop-j : goal.invariant-loop-j
invariant-loop-j l =
    (i : ℕ) → i < l.j → IsAgain (get_or l.rings (l.last.begin + i) []) l.by (get_or l.figure i [])
