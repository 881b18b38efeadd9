use Rattle.std.proofs.lemmas.Result.{err_from_is_err_and}
use Rattle.oasis_values.specs.Deltas.{two_delta}
use Rattle.oasis_values.proofs.Reading.{reads_seen_err, reads_refutes}
use Rattle.oasis_values.proofs.Values.{two_delta_code}
use Rattle.oasis_values.proofs.input.Input.two_delta.Goals as goal

pub returns-in_err-number : goal.returns-in_err-number
returns-in_err-number g c =
    let p = err_from_is_err_and c.from_residual.result c.from_residual.ensures.1 in
    let read = reads_seen_err two_delta c.in_err-number.ensures.reads in
    rw (p.1, p.2) (record { reads = read; none = reads_refutes two_delta_code read })
