use Rattle.oasis_records.proofs.Ruling.{reads_go, reads_stop}
use Rattle.oasis_values.proofs.Codes.{gives_code}
use Rattle.oasis_values.proofs.Reading.{reads_nothing}
use Rattle.std.proofs.lemmas.Result.{err_from_is_err_and}
use Rattle.oasis_records.proofs.end.end_of.Goals as goal

pub returns-in_err-validation : goal.returns-in_err-validation
returns-in_err-validation g c =
    let p = err_from_is_err_and c.from_residual.result c.from_residual.ensures.1 in
    rw (p.1, p.2) (record { reads = reads_stop _ _ (λ v. gives_code) c.in_err-validation.ensures.reads })

pub returns : goal.returns
returns g c =
    rw (c.must.ensures, c.is_whole-whole.ensures)
    (record {
      reads = reads_go _ c.in_ok-validation.ensures.reads
          (reads_nothing _ c.in_ok-validation.ensures.reads.failed);
    })
