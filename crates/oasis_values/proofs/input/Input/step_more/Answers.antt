use Rattle.std.proofs.lemmas.Result.{err_from_is_err_and}
use Rattle.oasis_values.specs.Known.{Known}
use Rattle.oasis_values.specs.Ranges.{sum}
use Rattle.oasis_values.proofs.Codes.{known_code}
use Rattle.oasis_values.proofs.Reading.{reads_err, reads_then}
use Rattle.oasis_values.specs.declared.fault.ValueFault.TheVariants.{OutOfRange}
use Rattle.oasis_values.proofs.input.Input.step_more.Goals as goal

pub returns-in_err-more : goal.returns-in_err-more
returns-in_err-more g c =
    let p = err_from_is_err_and c.from_residual.result c.from_residual.ensures.1 in
    rw (p.1, p.2) (record {
      reads = reads_err (λ d. Known (sum c.args.before d) OutOfRange)
          (λ d. known_code (sum c.args.before d) OutOfRange) c.in_err-more.ensures.reads;
    })

pub returns : goal.returns
returns g c =
    let q = rw c.sum.ensures at c.known.ensures.reads in
    record { reads = reads_then (λ d. Known (sum c.args.before d) OutOfRange) c.in_ok-more.ensures.reads q }
