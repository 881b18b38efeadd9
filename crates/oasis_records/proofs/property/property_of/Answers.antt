use Rattle.std.proofs.lemmas.Result.{err_from_is_err_and}
use Rattle.std.proofs.Common.{◌/◌, ◌==◌}
use Rattle.oasis_values.proofs.Codes.{then_code, seen_code}
use Rattle.oasis_values.proofs.Reading.{reads_err, reads_then, reads_seen, reads_seen_err}
use Rattle.oasis_records.specs.declared.record.Record.TheVariants.{Property}
use Rattle.oasis_records.proofs.Ignored.{count_by_code, values_code}
use Rattle.oasis_records.proofs.property.property_of.Goals as goal

pub returns-in_err-_name : goal.returns-in_err-_name
returns-in_err-_name g c =
    let p = err_from_is_err_and c.from_residual.result c.from_residual.ensures.1 in
    rw (p.1, p.2) (record {
      reads = reads_err _
          (λ _. then_code (count_by_code (c.args.info / 16 == 15) (c.args.info / 16))
          (λ n. seen_code (λ _. Property) (values_code n))) c.in_err-_name.ensures.reads;
    })

pub returns-in_err-count : goal.returns-in_err-count
returns-in_err-count g c =
    let p = err_from_is_err_and c.from_residual-in_err-count.result c.from_residual-in_err-count.ensures.1 in
    rw (p.1, p.2) (record {
      reads = reads_then _ c.in_ok-_name.ensures.reads
          (reads_err _ (λ n. seen_code (λ _. Property) (values_code n)) c.in_err-count.ensures.reads);
    })

pub returns-in_err-skip_values : goal.returns-in_err-skip_values
returns-in_err-skip_values g c =
    let p = err_from_is_err_and c.from_residual-in_err-skip_values.result c.from_residual-in_err-skip_values.ensures.1
    in
    rw (p.1, p.2) (record {
      reads = reads_then _ c.in_ok-_name.ensures.reads
          (reads_then _ c.in_ok-count.ensures.reads
          (reads_seen_err (λ _. Property) c.in_err-skip_values.ensures.reads));
    })

pub returns : goal.returns
returns g c = record {
  reads = reads_then _ c.in_ok-_name.ensures.reads
      (reads_then _ c.in_ok-count.ensures.reads (reads_seen (λ _. Property) c.in_ok-skip_values.ensures.reads));
}
