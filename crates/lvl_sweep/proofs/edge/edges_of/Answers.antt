use Rattle.std.proofs.Common.{arith, rules}
use Rattle.std.proofs.lemmas.List.Sorted.{answers_always}
use Rattle.lvl_sweep.proofs.Orders.{in_order}
use Rattle.lvl_sweep.proofs.Gathered.{one_gathered, all_gathered, one_counted, all_counted}
use Rattle.lvl_sweep.proofs.edge.edges_of.Goals as goal

pub loop-number-preserved : goal.loop-number-preserved
loop-number-preserved g c = record {
  edges =
      one_gathered (g.R.RingList.rings c.args.rings.now) c.ring.result.now c.loop-number.number _ _
      (omega (arith, c.loop-number-test.true, c.len-number-end.ensures))
      c.ring.ensures.value
      c.loop-number.invariant.edges
      (rw c.in_ok-kept.ensures at c.in_ok-push_edges.ensures.rising)
      (rw c.in_ok-kept.ensures at c.in_ok-push_edges.ensures.falling)
      (rw c.in_ok-kept.ensures at c.in_ok-push_edges.ensures.numbers)
      c.in_ok-push_edges.ensures.full;
  many =
      one_counted (g.R.RingList.rings c.args.rings.now) c.ring.result.now c.loop-number.number
      c.loop-number.edges.items c.push_edges.new.edges.items
      (omega (arith, c.loop-number-test.true, c.len-number-end.ensures)) c.ring.ensures.value
      c.loop-number.invariant.many c.in_ok-push_edges.ensures.many;
}

pub returns-clause-edges : goal.returns-clause-edges
returns-clause-edges g c =
    all_gathered _ c.loop-number.number _ _ (omega (arith, c.loop-number-test.false, c.len-number-end.ensures))
    c.loop-number.invariant.edges c.sort_unstable_by_key.ensures.permutation

pub returns-clause-many : goal.returns-clause-many
returns-clause-many g c =
    all_counted (g.R.RingList.rings c.args.rings.now) c.loop-number.number c.loop-number.edges.items _
    (omega (arith, c.loop-number-test.false, c.len-number-end.ensures)) c.loop-number.invariant.many
    c.sort_unstable_by_key.ensures.permutation

pub returns-clause-order : goal.returns-clause-order
returns-clause-order g c =
    in_order _ (c.sort_unstable_by_key.ensures.sorted (λ e. (e.low, e.x))
    (answers_always _ _ _ (λ f a r g h. search rules)))
