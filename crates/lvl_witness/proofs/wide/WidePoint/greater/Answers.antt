use Rattle.std.proofs.Common.{arith}
use Rattle.std.proofs.lemmas.Int.{ints, clamps}
use Rattle.lvl_witness.proofs.wide.WidePoint.greater.Goals as goal

pub returns-clause-small : goal.returns-clause-small
returns-clause-small c = record { x_small = grind (arith, ints, clamps); y_small = grind (arith, ints, clamps) }
