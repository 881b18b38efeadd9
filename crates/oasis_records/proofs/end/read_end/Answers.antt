use Rattle.oasis_records.proofs.Ruling.{and_then_code, reads_must_go, reads_must_stop}
use Rattle.oasis_records.proofs.Whole.{end_of_code}
use Rattle.oasis_values.proofs.Codes.{gives_code}
use Rattle.oasis_values.proofs.Reading.{reads_err, reads_then}
use Rattle.std.proofs.lemmas.Result.{err_from_is_err_and}
use Rattle.oasis_records.proofs.end.read_end.Goals as goal

pub returns-in_err-padding : goal.returns-in_err-padding
returns-in_err-padding g c =
    let p = err_from_is_err_and c.from_residual.result c.from_residual.ensures.1 in
    rw (p.1, p.2) (record {
      reads = reads_err _ (λ p. and_then_code gives_code (end_of_code c.args.id_len))
          c.in_err-padding.ensures.reads;
    })

pub returns-in_err-within : goal.returns-in_err-within
returns-in_err-within g c =
    let p = err_from_is_err_and c.from_residual-in_err-within.result c.from_residual-in_err-within.ensures.1 in
    let q = rw c.fits.ensures at c.in_err-within.ensures in
    rw (p.1, p.2) (record {
      reads = reads_then _ c.in_ok-padding.ensures.reads
          (reads_must_stop _ _ _ _ _ (end_of_code c.args.id_len) c.in_ok-padding.ensures.reads.failed q);
    })

pub returns : goal.returns
returns g c =
    let q = rw c.fits.ensures at c.in_ok-within.ensures in
    record {
      reads = reads_then _ c.in_ok-padding.ensures.reads
          (reads_must_go _ _ _ _ c.in_ok-padding.ensures.reads.failed q c.end_of.ensures.reads);
    }
