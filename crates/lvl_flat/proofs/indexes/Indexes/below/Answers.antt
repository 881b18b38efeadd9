use Rattle.lvl_flat.proofs.Choosing.{below_rise}
use Rattle.lvl_flat.proofs.indexes.Indexes.below.Goals as goal

pub invariant_of-result : goal.invariant_of-result
invariant_of-result c = below_rise c.args.end
