use Rattle.std.proofs.Common.{arith, refl}
use Rattle.std.proofs.lemmas.List.Sorted.{length_permutation}
use Rattle.lvl_sweep.proofs.Runs.{start_exchanged}
use Rattle.lvl_sweep.proofs.merge.start_by_exchange.Goals as goal

pub returns-clause-merging : goal.returns-clause-merging
returns-clause-merging c =
    λ y h. start_exchanged c.args.edges.now c.exchange.new.edges y c.args.from c.args.next c.args.end _ _ h
    c.requires.many (omega (arith, c.requires.many, c.requires.order.1))
    (record {
      long = omega (arith, length_permutation _ _ c.exchange.ensures.permutation);
      permutation = c.exchange.ensures.permutation;
      there = c.exchange.ensures.there;
      back = c.exchange.ensures.back;
      before = c.exchange.ensures.before;
      between = c.exchange.ensures.between;
      later = c.exchange.ensures.later;
    })
    refl refl refl refl refl refl
