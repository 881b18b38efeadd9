use Rattle.std.proofs.Common.{arith}
use Rattle.std.proofs.lemmas.Int.{ints, clamps}
use Rattle.lvl_simplify.proofs.Joining.{both_have}
use Rattle.lvl_simplify.proofs.spanning.join_rows.Goals as goal

pub returns : goal.returns
returns c =
    both_have c.args.first c.args.second _ (grind (arith, ints)) (grind (arith, ints)) (omega (arith, ints))
    (omega (arith, ints)) (omega (arith, ints)) (omega (arith, ints, clamps, c.max.ensures.value)) (grind (arith, ints))
    (grind (arith, ints))
