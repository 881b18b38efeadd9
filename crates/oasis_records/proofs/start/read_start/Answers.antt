use Rattle.oasis_records.proofs.Others.{start_of_code}
use Rattle.oasis_records.proofs.Ruling.{reads_go, reads_halt}
use Rattle.std.proofs.lemmas.Result.{err_from_is_err_and}
use Rattle.oasis_records.proofs.start.read_start.Goals as goal

pub returns-in_err-version : goal.returns-in_err-version
returns-in_err-version g c =
    let p = err_from_is_err_and c.from_residual.result c.from_residual.ensures.1 in
    rw (p.1, p.2) (record { reads = reads_halt _ _ (λ _. start_of_code) c.in_err-version.ensures.reads })

pub returns-in_err-start : goal.returns-in_err-start
returns-in_err-start g c =
    let p = err_from_is_err_and c.from_residual-in_err-start.result c.from_residual-in_err-start.ensures.1 in
    rw (p.1, p.2) (record { reads = reads_go _ c.in_ok-version.ensures.reads c.in_err-start.ensures.reads })

pub returns : goal.returns
returns g c = record { reads = reads_go _ c.in_ok-version.ensures.reads c.in_ok-start.ensures.reads }
