use Rattle.std.proofs.Common.{arith}
use Rattle.std.proofs.lemmas.Int.{ints}
use Rattle.lvl_grid.proofs.Squares.{same_square}
use Rattle.lvl_witness.proofs.wide.taken_back.Goals as goal

pub returns-clause-square : goal.returns-clause-square
returns-clause-square c = same_square _ _ (omega (arith, ints)) (omega (arith, ints))
