use Rattle.oasis_records.proofs.Codes.{if_code}
use Rattle.oasis_records.proofs.Ruling.{and_then_code, reads_go, reads_stop}
use Rattle.oasis_records.proofs.Shapes.{ends_if_code}
use Rattle.oasis_values.proofs.Codes.{gives_code, then_code}
use Rattle.oasis_values.proofs.Integers.{unsigned_code}
use Rattle.oasis_values.proofs.Reading.{reads_err, reads_nothing, reads_then}
use Rattle.std.proofs.lemmas.Result.{err_from_is_err_and}
use Rattle.oasis_records.proofs.path.stroke_of.Goals as goal

pub returns-in_err-on : goal.returns-in_err-on
returns-in_err-on g c =
    let p = err_from_is_err_and c.from_residual.result c.from_residual.ensures.1 in
    rw (p.1, p.2) (record {
      reads = reads_err _
          (λ on. then_code (if_code _ unsigned_code) (λ w. and_then_code (ends_if_code _) (λ e. gives_code)))
          c.in_err-on.ensures.reads;
    })

pub returns-in_err-half_width : goal.returns-in_err-half_width
returns-in_err-half_width g c =
    let p = err_from_is_err_and c.from_residual-in_err-half_width.result c.from_residual-in_err-half_width.ensures.1 in
    rw (p.1, p.2) (record {
      reads = reads_then _ c.in_ok-on.ensures.reads
          (reads_err _ (λ w. and_then_code (ends_if_code _) (λ e. gives_code))
          c.in_err-half_width.ensures.reads);
    })

pub returns-in_err-ends : goal.returns-in_err-ends
returns-in_err-ends g c =
    let p = err_from_is_err_and c.from_residual-in_err-ends.result c.from_residual-in_err-ends.ensures.1 in
    rw (p.1, p.2) (record {
      reads = reads_then _ c.in_ok-on.ensures.reads
          (reads_then _ c.in_ok-half_width.ensures.reads
          (reads_stop _ _ (λ e. gives_code) c.in_err-ends.ensures.reads));
    })

pub returns : goal.returns
returns g c =
    record {
      reads = reads_then _ c.in_ok-on.ensures.reads
          (reads_then _ c.in_ok-half_width.ensures.reads
          (reads_go _ c.in_ok-ends.ensures.reads (reads_nothing _ c.in_ok-ends.ensures.reads.failed)));
    }
