use Rattle.std.proofs.Common.{drop, length, ◌+◌}
use Rattle.lvl_compare.specs.Flats.{AlikeOn}
use Rattle.lvl_compare.proofs.After.{IsWalked}
use Rattle.lvl_compare.proofs.regions.difference_with.Given as goal

-- both cover the same on the Layers so far
abbrev pub invariant-loop-layer : goal.invariant-loop-layer
invariant-loop-layer g l =
    IsWalked (AlikeOn l.fn.first l.fn.second) (drop l.ours l.fn.first) (drop l.theirs l.fn.second)

abbrev pub decreases-loop-layer : goal.decreases-loop-layer
decreases-loop-layer g l = length (drop l.ours l.fn.first) + length (drop l.theirs l.fn.second)
