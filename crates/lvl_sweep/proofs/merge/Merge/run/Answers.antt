use Rattle.std.proofs.Common.{◌∙◌}
use Rattle.std.proofs.lemmas.List.Sorted.{IsPermutation-trans}
use Rattle.lvl_sweep.proofs.merge.Merge.run.Goals as goal

pub loop-self-preserved : goal.loop-self-preserved
loop-self-preserved c = record {
  merging = c.step.ensures.merging;
  permutation = IsPermutation-trans c.args.edges.now c.loop-self.edges c.step.new.edges
      c.loop-self.invariant.permutation c.step.ensures.permutation;
  later = λ k d le. c.step.ensures.later k d (rw c.loop-self.invariant.end le) ∙ c.loop-self.invariant.later k d le;
  end = c.step.ensures.end ∙ c.loop-self.invariant.end;
  top =
      λ b h. rw c.loop-self.invariant.end at (c.step.ensures.top b
      (rw c.loop-self.invariant.end (c.loop-self.invariant.top b h)));
}
