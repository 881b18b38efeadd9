use Rattle.std.proofs.Common.{length, Ok, refl, ap, arith}
use Rattle.oasis_values.specs.Numbers.{IsUnsigned}
use Rattle.oasis_values.proofs.Found.{hand_front, front_within, reads_found}
use Rattle.oasis_values.proofs.input.Input.in_hand.Goals as goal

pub returns-in-Whole : goal.returns-in-Whole
returns-in-Whole g c =
    let S = IsUnsigned c.args.self.now.profile in
    let found = Ok c.in-Whole.value in
    let w = front_within S c.ahead-hand.result.now c.min-first.result c.in-Whole.len found c.in-Whole.ensures in
    let l = ap length c.ahead-hand.ensures.value in
    record {
      reads =
          reads_found g.R.Read.remaining g.R.Read.read_errors g.R.Read.lent IsUnsigned c.args.self.now _
          c.args.self.now.ahead c.in-Whole.value c.in-Whole.len
          c.if-self.false c.if-self.false c.skip.ensures refl refl (λ xs k. k)
          (omega (arith, w.1, l)) (omega (arith, w.0, c.min-first.ensures, c.min-within.ensures))
          (λ xs k. hand_front S c.args.self.now.ahead c.ahead-hand.result.now _ xs c.min-first.result c.in-Whole.len
          found c.ahead-hand.ensures.value k c.in-Whole.ensures) refl refl;
      kept = λ e. absurd (cc);
    }
