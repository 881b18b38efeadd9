use Rattle.std.proofs.Common.{length, Ok, ap, arith}
use Rattle.oasis_values.specs.Numbers.{IsUnsigned}
use Rattle.oasis_values.proofs.Found.{hand_front, front_within}
use Rattle.oasis_values.proofs.find.find_integer.Goals as goal

pub returns-in-Whole-clause-finds : goal.returns-in-Whole-clause-finds
returns-in-Whole-clause-finds g c = λ xs k.
    hand_front (IsUnsigned c.args.profile.now) c.args.ahead.now c.ahead-hand.result.now _ xs c.min-most.result
    c.in-Whole.len (Ok c.in-Whole.value) c.ahead-hand.ensures.value k c.in-Whole.ensures

pub returns-in-Whole-clause-had : goal.returns-in-Whole-clause-had
returns-in-Whole-clause-had g c =
    let w = front_within (IsUnsigned c.args.profile.now) c.ahead-hand.result.now c.min-most.result
    c.in-Whole.len (Ok c.in-Whole.value) c.in-Whole.ensures in
    let l = ap length c.ahead-hand.ensures.value in
    (omega (arith, w.1, l), omega (arith, w.0, c.min-most.ensures))
