use Rattle.std.proofs.Common.{w64, refl}
use Rattle.std.proofs.lemmas.Int.{to_z-of_z}
use Rattle.std.proofs.lemmas.List.Sorted.{IsPermutation-trans}
use Rattle.lvl_sweep.proofs.Runs.{no_end}
use Rattle.lvl_sweep.proofs.merge.renew.Goals as goal

pub run-requires : goal.run-requires
run-requires c =
    record { merging = rw (to_z-of_z w64 _ c.ranges.y) (c.start-merge.ensures.merging c.args.y c.requires.renewed) }

pub returns-clause-permutation : goal.returns-clause-permutation
returns-clause-permutation c =
    IsPermutation-trans c.args.edges.now c.start-merge.new.edges c.run.new.edges c.start-merge.ensures.permutation
    c.run.ensures.permutation

pub returns-clause-top : goal.returns-clause-top
returns-clause-top c =
    rw c.start-merge.ensures.end at (c.run.ensures.top c.args.begins
    (no_end c.start-merge.new.edges _ _ _ _ (rw (c.start-merge.ensures.first, c.start-merge.ensures.end) refl)
    c.start-merge.ensures.top))
