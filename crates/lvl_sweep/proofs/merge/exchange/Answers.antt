use Rattle.lvl_sweep.proofs.Runs.{exchanged_more}
use Rattle.lvl_sweep.proofs.merge.exchange.Goals as goal

pub loop-i-preserved : goal.loop-i-preserved
loop-i-preserved c =
    exchanged_more c.args.edges.now c.loop-i.edges c.swap.new.self c.args.to c.args.from c.args.count c.loop-i.i
    c.requires.apart c.loop-i-test.true c.loop-i.invariant c.swap.ensures.by_index c.swap.ensures.len
    c.swap.ensures.permutation
