use Rattle.std.proofs.Common.{arith}
use Rattle.std.proofs.Math.Nat.{le-div_iff_mul-le}
use Rattle.std.proofs.lemmas.Int.{ints}
use Rattle.lvl_witness.proofs.stretch.greatest_index.Goals as goal

pub returns : goal.returns
returns c = λ k h.
    (le-div_iff_mul-le c.requires.step).1 (omega (arith, ints, h, c.requires.high, c.unsigned_abs.ensures.value))
