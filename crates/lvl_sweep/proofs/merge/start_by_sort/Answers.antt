use Rattle.std.proofs.Common.{rules, refl}
use Rattle.std.proofs.lemmas.List.Sorted.{answers_always, IsPermutation-put_mid}
use Rattle.lvl_sweep.proofs.Runs.{start_sorted}
use Rattle.lvl_sweep.proofs.merge.start_by_sort.Goals as goal

pub returns-clause-merging : goal.returns-clause-merging
returns-clause-merging c =
    λ y next h. start_sorted c.args.edges.now c.sort_unstable_by_key.new.self y c.args.from next c.args.end _ h
    c.sort_unstable_by_key.ensures.len c.sort_unstable_by_key.ensures.permutation
    (c.sort_unstable_by_key.ensures.sorted (λ e. e.x) (answers_always _ _ _ (λ f a r g h. search rules)))
    refl refl refl refl refl refl

pub returns-clause-permutation : goal.returns-clause-permutation
returns-clause-permutation c =
    IsPermutation-put_mid c.args.from _ c.args.edges.now c.sort_unstable_by_key.new.self
    c.sort_unstable_by_key.ensures.permutation
