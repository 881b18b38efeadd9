use Rattle.std.proofs.Common.{◌-◌, length, take}
use Rattle.lvl_compare.specs.Tops.{DrawSameOn}
use Rattle.lvl_compare.specs.Pairs.{ours, seen_in, theirs}
use Rattle.lvl_compare.proofs.listed.difference_on_listed.Given as goal

-- on the Layers so far, both draw the same
abbrev pub invariant-loop-from : goal.invariant-loop-from
invariant-loop-from l =
    DrawSameOn (take l.from l.layers) (seen_in l.pair l.windows) (ours l.pair) (theirs l.pair)

abbrev pub decreases-loop-from : goal.decreases-loop-from
decreases-loop-from l = length l.layers - l.from
