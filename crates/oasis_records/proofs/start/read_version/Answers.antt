use Rattle.oasis_records.proofs.Ruling.{reads_go, reads_halt}
use Rattle.oasis_values.proofs.Codes.{gives_code}
use Rattle.oasis_values.proofs.Reading.{reads_nothing}
use Rattle.std.proofs.lemmas.Result.{err_from_is_err_and}
use Rattle.oasis_records.proofs.start.read_version.Goals as goal

pub returns-in_err-text : goal.returns-in_err-text
returns-in_err-text g c =
    let p = err_from_is_err_and c.from_residual.result c.from_residual.ensures.1 in
    rw (p.1, p.2) (record { reads = reads_halt _ _ (λ t. gives_code) c.in_err-text.ensures.reads })

pub returns-in_err-version : goal.returns-in_err-version
returns-in_err-version g c =
    let p = err_from_is_err_and c.from_residual-in_err-version.result c.from_residual-in_err-version.ensures.1 in
    rw (p.1, p.2, c.in_err-version.ensures, c.is_version-is_known.ensures)
    (record { reads = reads_go _ c.in_ok-text.ensures.reads (reads_nothing _ c.in_ok-text.ensures.reads.failed) })

pub returns : goal.returns
returns g c =
    rw (c.in_ok-version.ensures, c.is_version-is_known.ensures)
    (record { reads = reads_go _ c.in_ok-text.ensures.reads (reads_nothing _ c.in_ok-text.ensures.reads.failed) })
