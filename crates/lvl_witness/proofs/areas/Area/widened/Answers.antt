use Rattle.std.proofs.Common.{arith}
use Rattle.std.proofs.lemmas.Int.{ints, clamps}
use Rattle.lvl_witness.proofs.areas.Area.widened.Goals as goal

pub overflow_sub-result-3 : goal.overflow_sub-result-3
overflow_sub-result-3 c = omega (arith, ints, clamps)

pub overflow_sub-result-4 : goal.overflow_sub-result-4
overflow_sub-result-4 c = omega (arith, ints, clamps)

pub returns-clause-small : goal.returns-clause-small
returns-clause-small c = record {
  low = record { x_small = omega (arith, ints, clamps); y_small = omega (arith, ints, clamps) };
  high = record { x_small = omega (arith, ints, clamps); y_small = omega (arith, ints, clamps) };
}

pub returns-clause-has : goal.returns-clause-has
returns-clause-has c = λ p e x y inside. record {
  left = omega (arith, ints, clamps, x.high, inside.left);
  right = omega (arith, ints, clamps, x.low, inside.right);
  below = omega (arith, ints, clamps, y.high, inside.below);
  above = omega (arith, ints, clamps, y.low, inside.above);
}
