use Rattle.std.proofs.Common.{arith}
use Rattle.std.proofs.lemmas.Int.{ints}
use Rattle.lvl_grid.proofs.Composing.{same_point}
use Rattle.lvl_cells.proofs.shared.distance.Goals as goal

pub returns : goal.returns
returns c =
    same_point _ _ (omega (arith, ints, c.in_ok-x.ensures.0, c.in_ok-x.ensures.1))
    (omega (arith, ints, c.in_ok-y.ensures.0, c.in_ok-y.ensures.1))
