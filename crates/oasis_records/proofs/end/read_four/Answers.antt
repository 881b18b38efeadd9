use Rattle.oasis_records.specs.Ends.{four}
use Rattle.oasis_values.proofs.Codes.{then_code, seen_code}
use Rattle.oasis_values.proofs.Integers.{byte_code}
use Rattle.oasis_values.proofs.Reading.{reads_err, reads_seen, reads_seen_err, reads_then}
use Rattle.std.proofs.lemmas.Result.{err_from_is_err_and}
use Rattle.oasis_records.proofs.end.read_four.Goals as goal

pub returns-in_err-first : goal.returns-in_err-first
returns-in_err-first g c =
    let p = err_from_is_err_and c.from_residual.result c.from_residual.ensures.1 in
    rw (p.1, p.2) (record {
      reads = reads_err _
          (λ a. then_code byte_code (λ b. then_code byte_code (λ d. seen_code (four a b d) byte_code)))
          c.in_err-first.ensures.reads;
    })

pub returns-in_err-second : goal.returns-in_err-second
returns-in_err-second g c =
    let p = err_from_is_err_and c.from_residual-in_err-second.result c.from_residual-in_err-second.ensures.1 in
    rw (p.1, p.2) (record {
      reads = reads_then _ c.in_ok-first.ensures.reads
          (reads_err _ (λ b. then_code byte_code (λ d. seen_code (four c.in_ok-first.first b d) byte_code))
          c.in_err-second.ensures.reads);
    })

pub returns-in_err-third : goal.returns-in_err-third
returns-in_err-third g c =
    let p = err_from_is_err_and c.from_residual-in_err-third.result c.from_residual-in_err-third.ensures.1 in
    rw (p.1, p.2) (record {
      reads = reads_then _ c.in_ok-first.ensures.reads
          (reads_then _ c.in_ok-second.ensures.reads
          (reads_err _ (λ d. seen_code (four c.in_ok-first.first c.in_ok-second.second d) byte_code)
          c.in_err-third.ensures.reads));
    })

pub returns-in_err-fourth : goal.returns-in_err-fourth
returns-in_err-fourth g c =
    let p = err_from_is_err_and c.from_residual-in_err-fourth.result c.from_residual-in_err-fourth.ensures.1 in
    rw (p.1, p.2) (record {
      reads = reads_then _ c.in_ok-first.ensures.reads
          (reads_then _ c.in_ok-second.ensures.reads
          (reads_then _ c.in_ok-third.ensures.reads (reads_seen_err _ c.in_err-fourth.ensures.reads)));
    })

pub returns : goal.returns
returns g c =
    record {
      reads = reads_then _ c.in_ok-first.ensures.reads
          (reads_then _ c.in_ok-second.ensures.reads
          (reads_then _ c.in_ok-third.ensures.reads (reads_seen _ c.in_ok-fourth.ensures.reads)));
    }
