use Rattle.std.proofs.Common.{take}
use Rattle.lvl_compare.specs.inside.Groups.{AreNotBefore}
use Rattle.lvl_compare.proofs.groups.some_before.Given as goal

-- none of the Layers so far comes before it
abbrev pub invariant-loop-other : goal.invariant-loop-other
invariant-loop-other l = AreNotBefore l.view.pairs l.layer (take l.other-index l.layers)
