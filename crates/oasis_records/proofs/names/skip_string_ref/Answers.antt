use Rattle.std.proofs.lemmas.Result.{err_from_is_err_and}
use Rattle.oasis_values.proofs.Reading.{reads_seen, reads_seen_err}
use Rattle.oasis_records.proofs.names.skip_string_ref.Goals as goal

pub returns-in_err-_number : goal.returns-in_err-_number
returns-in_err-_number g c =
    let p = err_from_is_err_and c.from_residual.result c.from_residual.ensures.1 in
    rw (p.1, p.2, c.if-by_number.true) (record { reads = reads_seen_err (λ _. tt) c.in_err-_number.ensures.reads })

pub returns-then-by_number : goal.returns-then-by_number
returns-then-by_number g c =
    rw c.if-by_number.true (record { reads = reads_seen (λ _. tt) c.in_ok-_number.ensures.reads })

pub returns : goal.returns
returns g c = rw c.if-by_number.false (record { reads = c.skip_string.ensures.reads })
