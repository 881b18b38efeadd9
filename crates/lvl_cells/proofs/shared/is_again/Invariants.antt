use Rattle.std.proofs.Common.{take}
use Rattle.lvl_cells.specs.inside.Spans.{IsAgain}
use Rattle.lvl_cells.proofs.shared.is_again.Given as goal

-- the points so far are the kept ones, moved
abbrev pub invariant-loop-k : goal.invariant-loop-k
invariant-loop-k l = IsAgain (take l.k l.kept) l.by (take l.k l.ring)
