use Rattle.oasis_records.proofs.Ruling.{and_then_code, reads_go, reads_stop}
use Rattle.oasis_records.proofs.Whole.{scheme_code, signature_code}
use Rattle.oasis_values.proofs.Codes.{seen_code}
use Rattle.oasis_values.proofs.Reading.{reads_err, reads_seen, reads_seen_err, reads_then}
use Rattle.std.proofs.Common.{Ok}
use Rattle.std.proofs.lemmas.Result.{err_from_is_err_and}
use Rattle.oasis_records.proofs.end.read_ending.Goals as goal

pub returns-in_err-_padding : goal.returns-in_err-_padding
returns-in_err-_padding g c =
    let p = err_from_is_err_and c.from_residual.result c.from_residual.ensures.1 in
    rw (p.1, p.2) (record {
      reads = reads_err _
          (λ p. and_then_code scheme_code (λ s. seen_code Ok (signature_code _ s)))
          c.in_err-_padding.ensures.reads;
    })

pub returns-in_err-scheme : goal.returns-in_err-scheme
returns-in_err-scheme g c =
    let p = err_from_is_err_and c.from_residual-in_err-scheme.result c.from_residual-in_err-scheme.ensures.1 in
    rw (p.1, p.2) (record {
      reads = reads_then _ c.in_ok-_padding.ensures.reads
          (reads_stop _ _ (λ s. seen_code Ok (signature_code _ s)) c.in_err-scheme.ensures.reads);
    })

pub returns-in_err-validation : goal.returns-in_err-validation
returns-in_err-validation g c =
    let p = err_from_is_err_and c.from_residual-in_err-validation.result c.from_residual-in_err-validation.ensures.1 in
    let q = rw c.is_absent-none.ensures at c.in_err-validation.ensures.reads in
    rw (p.1, p.2) (record {
      reads = reads_then _ c.in_ok-_padding.ensures.reads
          (reads_go _ c.in_ok-scheme.ensures.reads (reads_seen_err _ q));
    })

pub returns : goal.returns
returns g c =
    let q = rw c.is_absent-none.ensures at c.in_ok-validation.ensures.reads in
    record {
      reads = reads_then _ c.in_ok-_padding.ensures.reads
          (reads_go _ c.in_ok-scheme.ensures.reads (reads_seen _ q));
    }
