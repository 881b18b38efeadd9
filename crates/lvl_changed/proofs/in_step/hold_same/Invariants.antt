use Rattle.lvl_changed.specs.inside.Areas.{Grows}
use Rattle.lvl_changed.specs.inside.Pairs.{AreFoundIn}
use Rattle.lvl_changed.specs.inside.InStep.{ReferAlikeUpTo}
use Rattle.lvl_changed.proofs.in_step.hold_same.Given as goal

-- outside of the area the references so far of both cells cover the same
abbrev pub invariant-loop-j : goal.invariant-loop-j
invariant-loop-j l = record {
  alike : AreFoundIn l.pair l.known → ReferAlikeUpTo l.j l.area l.pair l.ours l.theirs;
  kept : Grows l.initial.area l.area;
}
