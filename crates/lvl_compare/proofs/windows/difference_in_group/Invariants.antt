use Rattle.std.proofs.Common.{◌-◌, None, length, take}
use Rattle.lvl_compare.specs.inside.Groups.{on}
use Rattle.lvl_compare.specs.Pairs.{ours, seen_in, theirs}
use Rattle.lvl_compare.specs.inside.Strips.{IsImproved}
use Rattle.lvl_compare.proofs.windows.difference_in_group.Given as goal

-- what is found is the first difference in the windows so far
abbrev pub invariant-loop-from : goal.invariant-loop-from
invariant-loop-from l =
    IsImproved (ours l.pair) (theirs l.pair) (on l.group.span (seen_in l.pair (take l.from l.windows))) None l.found

abbrev pub decreases-loop-from : goal.decreases-loop-from
decreases-loop-from l = length l.windows - l.from
