use Rattle.lvl_compare.specs.Pairs.{ours, seen_in, theirs}
use Rattle.lvl_compare.proofs.InGroups.{AlikeUpTo}
use Rattle.lvl_compare.proofs.windows.difference_by_groups.Given as goal

-- on the Layers of the groups so far, both draw the same
abbrev pub invariant-loop-end : goal.invariant-loop-end
invariant-loop-end l = AlikeUpTo (ours l.pair) (theirs l.pair) (seen_in l.pair l.windows) l.after
