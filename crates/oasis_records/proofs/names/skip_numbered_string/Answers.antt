use Rattle.std.proofs.lemmas.Result.{err_from_is_err_and}
use Rattle.oasis_values.proofs.Reading.{reads_err, reads_then, reads_seen, reads_seen_err}
use Rattle.oasis_records.proofs.Ignored.{number_code}
use Rattle.oasis_records.proofs.names.skip_numbered_string.Goals as goal

pub returns-in_err-skip_string : goal.returns-in_err-skip_string
returns-in_err-skip_string g c =
    let p = err_from_is_err_and c.from_residual.result c.from_residual.ensures.1 in
    rw (p.1, p.2) (record { reads = reads_err _ (λ _. number_code) c.in_err-skip_string.ensures.reads })

pub returns-in_err-_number : goal.returns-in_err-_number
returns-in_err-_number g c =
    let p = err_from_is_err_and c.from_residual-in_err-_number.result c.from_residual-in_err-_number.ensures.1 in
    rw (p.1, p.2) (record {
      reads = reads_then _ c.in_ok-skip_string.ensures.reads (reads_seen_err _ c.in_err-_number.ensures.reads);
    })

pub returns : goal.returns
returns g c =
    record { reads = reads_then _ c.in_ok-skip_string.ensures.reads (reads_seen _ c.in_ok-_number.ensures.reads) }
