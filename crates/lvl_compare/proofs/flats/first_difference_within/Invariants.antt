use Rattle.std.proofs.Common.{drop, length, ◌+◌}
use Rattle.lvl_columns.specs.Windows.{window_of}
use Rattle.lvl_compare.specs.Flats.{AlikeIn}
use Rattle.lvl_compare.proofs.After.{IsWalked}
use Rattle.lvl_compare.proofs.flats.first_difference_within.Given as goal

-- both cover the same in the window on the Layers so far
abbrev pub invariant-loop-layer : goal.invariant-loop-layer
invariant-loop-layer l =
    IsWalked (AlikeIn (window_of l.fn.window) l.fn.first l.fn.second) (drop l.ours l.fn.first)
    (drop l.theirs l.fn.second)

abbrev pub decreases-loop-layer : goal.decreases-loop-layer
decreases-loop-layer l = length (drop l.ours l.fn.first) + length (drop l.theirs l.fn.second)
