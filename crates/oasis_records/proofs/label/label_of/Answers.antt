use Rattle.std.proofs.lemmas.Result.{err_from_is_err_and}
use Rattle.oasis_values.proofs.Codes.{then_code, seen_code}
use Rattle.oasis_values.proofs.Reading.{reads_err, reads_then, reads_seen, reads_seen_err}
use Rattle.oasis_records.specs.Labels.{label}
use Rattle.oasis_records.proofs.Codes.{on_layer_code, position_code}
use Rattle.oasis_records.proofs.label.label_of.Goals as goal

pub returns-in_err-_string : goal.returns-in_err-_string
returns-in_err-_string g c =
    let p = err_from_is_err_and c.from_residual.result c.from_residual.ensures.1 in
    rw (p.1, p.2) (record {
      reads = reads_err _
          (λ _. then_code (on_layer_code c.args.info) (λ _. seen_code label (position_code c.args.info)))
          c.in_err-_string.ensures.reads;
    })

pub returns-in_err-_on : goal.returns-in_err-_on
returns-in_err-_on g c =
    let p = err_from_is_err_and c.from_residual-in_err-_on.result c.from_residual-in_err-_on.ensures.1 in
    rw (p.1, p.2) (record {
      reads = reads_then _ c.in_ok-_string.ensures.reads
          (reads_err _ (λ _. seen_code label (position_code c.args.info)) c.in_err-_on.ensures.reads);
    })

pub returns-in_err-position : goal.returns-in_err-position
returns-in_err-position g c =
    let p = err_from_is_err_and c.from_residual-in_err-position.result c.from_residual-in_err-position.ensures.1 in
    rw (p.1, p.2) (record {
      reads = reads_then _ c.in_ok-_string.ensures.reads
          (reads_then _ c.in_ok-_on.ensures.reads (reads_seen_err label c.in_err-position.ensures.reads));
    })

pub returns : goal.returns
returns g c = record {
  reads = reads_then _ c.in_ok-_string.ensures.reads
      (reads_then _ c.in_ok-_on.ensures.reads (reads_seen label c.in_ok-position.ensures.reads));
}
