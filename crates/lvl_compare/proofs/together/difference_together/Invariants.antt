use Rattle.std.proofs.Common.{take}
use Rattle.lvl_compare.specs.inside.Groups.{on}
use Rattle.lvl_compare.specs.Pairs.{ours, seen_in, theirs}
use Rattle.lvl_compare.specs.inside.Strips.{IsImproved}
use Rattle.lvl_compare.proofs.together.difference_together.Given as goal

-- what is found is what is known, or the first difference in the windows so far
abbrev pub invariant-loop-window : goal.invariant-loop-window
invariant-loop-window l =
    IsImproved (ours l.pair) (theirs l.pair) (on l.group.span (seen_in l.pair (take l.window-index l.windows))) l.fn.known
    l.found
