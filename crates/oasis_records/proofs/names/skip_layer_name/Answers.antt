use Rattle.std.proofs.lemmas.Result.{err_from_is_err_and}
use Rattle.oasis_values.proofs.Reading.{reads_err, reads_then}
use Rattle.oasis_records.proofs.Ignored.{interval_code}
use Rattle.oasis_records.proofs.Ruling.{and_then_code, reads_go, reads_stop}
use Rattle.oasis_records.proofs.names.skip_layer_name.Goals as goal

pub returns-in_err-skip_string : goal.returns-in_err-skip_string
returns-in_err-skip_string g c =
    let p = err_from_is_err_and c.from_residual.result c.from_residual.ensures.1 in
    rw (p.1, p.2) (record {
      reads = reads_err _ (λ _. and_then_code interval_code (λ _. interval_code)) c.in_err-skip_string.ensures.reads;
    })

pub returns-in_err-skip_interval : goal.returns-in_err-skip_interval
returns-in_err-skip_interval g c =
    let p = err_from_is_err_and c.from_residual-in_err-skip_interval.result
    c.from_residual-in_err-skip_interval.ensures.1 in
    rw (p.1, p.2) (record {
      reads = reads_then _ c.in_ok-skip_string.ensures.reads
          (reads_stop _ _ (λ _. interval_code) c.in_err-skip_interval.ensures.reads);
    })

pub returns : goal.returns
returns g c = record {
  reads = reads_then _ c.in_ok-skip_string.ensures.reads
      (reads_go _ c.in_ok-skip_interval.ensures.reads c.skip_interval-2.ensures.reads);
}
