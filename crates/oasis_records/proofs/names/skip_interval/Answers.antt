use Rattle.std.proofs.lemmas.Result.{err_from_is_err_and}
use Rattle.std.proofs.Common.{Ok}
use Rattle.oasis_values.proofs.Reading.{reads_seen, reads_seen_err}
use Rattle.oasis_records.proofs.Ignored.{interval_of_code}
use Rattle.oasis_records.proofs.Ruling.{reads_go, reads_stop}
use Rattle.oasis_records.proofs.names.skip_interval.Goals as goal

pub returns-in_err-kind : goal.returns-in_err-kind
returns-in_err-kind g c =
    let p = err_from_is_err_and c.from_residual.result c.from_residual.ensures.1 in
    rw (p.1, p.2) (record { reads = reads_stop _ _ interval_of_code c.in_err-kind.ensures.reads })

pub returns-in_err-skip_bounds : goal.returns-in_err-skip_bounds
returns-in_err-skip_bounds g c =
    let p = err_from_is_err_and c.from_residual-in_err-skip_bounds.result c.from_residual-in_err-skip_bounds.ensures.1
    in
    let q = rw c.bounds.ensures at c.in_err-skip_bounds.ensures.reads in
    rw (p.1, p.2) (record { reads = reads_go _ c.in_ok-kind.ensures.reads (reads_seen_err Ok q) })

pub returns : goal.returns
returns g c =
    let q = rw c.bounds.ensures at c.in_ok-skip_bounds.ensures.reads in
    record { reads = reads_go _ c.in_ok-kind.ensures.reads (reads_seen Ok q) }
