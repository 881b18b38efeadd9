use Rattle.std.proofs.Common.{arith}
use Rattle.std.proofs.lemmas.Int.{ints}
use Rattle.lvl_grid.proofs.Composing.{same_point}
use Rattle.lvl_witness.proofs.wide.WidePoint.moved.Goals as goal

pub returns-clause-moved : goal.returns-clause-moved
returns-clause-moved c = same_point _ _ (omega (arith, ints)) (omega (arith, ints))
