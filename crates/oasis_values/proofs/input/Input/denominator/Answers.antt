use Rattle.std.proofs.lemmas.Result.{err_from_is_err_and}
use Rattle.oasis_values.specs.Known.{Known}
use Rattle.oasis_values.specs.Reals.{not_zero}
use Rattle.oasis_values.proofs.Codes.{known_code}
use Rattle.oasis_values.proofs.Reading.{reads_err, reads_then}
use Rattle.oasis_values.specs.declared.fault.ValueFault.TheVariants.{ZeroDenominator}
use Rattle.oasis_values.proofs.input.Input.denominator.Goals as goal

pub returns-in_err-number : goal.returns-in_err-number
returns-in_err-number g c =
    let p = err_from_is_err_and c.from_residual.result c.from_residual.ensures.1 in
    rw (p.1, p.2) (record {
      reads = reads_err (λ n. Known (not_zero n) ZeroDenominator)
          (λ n. known_code (not_zero n) ZeroDenominator) c.in_err-number.ensures.reads;
    })

pub returns : goal.returns
returns g c =
    let q = rw c.not_zero.ensures at c.known.ensures.reads in
    record { reads = reads_then (λ n. Known (not_zero n) ZeroDenominator) c.in_ok-number.ensures.reads q }
