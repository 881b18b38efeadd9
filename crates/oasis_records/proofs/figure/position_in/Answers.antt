use Rattle.std.proofs.Common.{true}
use Rattle.std.proofs.lemmas.Result.{err_from_is_err_and}
use Rattle.oasis_values.proofs.Codes.{then_code, seen_code}
use Rattle.oasis_values.proofs.Places.{repetition_code}
use Rattle.oasis_values.proofs.Reading.{reads_err, reads_then}
use Rattle.oasis_records.proofs.Ruling.{reads_in}
use Rattle.oasis_records.specs.Fields.{position}
use Rattle.oasis_records.proofs.Codes.{if_code}
use Rattle.oasis_values.proofs.Values.{signed_code}
use Rattle.oasis_records.proofs.figure.position_in.Goals as goal

pub returns-in_err-position : goal.returns-in_err-position
returns-in_err-position g c =
    let p = err_from_is_err_and c.from_residual.result c.from_residual.ensures.1 in
    rw (p.1, p.2) (record {
      reads = reads_err _
          (λ x. then_code (if_code _ signed_code)
          (λ y. seen_code (position x y) (if_code _ (repetition_code true)))) c.in_err-position.ensures.reads;
    })

pub returns-in_err-position-2 : goal.returns-in_err-position-2
returns-in_err-position-2 g c =
    let p = err_from_is_err_and c.from_residual-in_err-position-2.result c.from_residual-in_err-position-2.ensures.1 in
    rw (p.1, p.2) (record {
      reads = reads_then _ c.in_ok-position.ensures.reads
          (reads_err _ (λ y. seen_code (position c.in_ok-position.field-0 y) (if_code _ (repetition_code true)))
          c.in_err-position-2.ensures.reads);
    })

pub returns : goal.returns
returns g c =
    record {
      reads = reads_then _ c.in_ok-position.ensures.reads
          (reads_then _ c.in_ok-position-2.ensures.reads
          (reads_in (position c.in_ok-position.field-0 c.in_ok-position-2.field-0) c.repetition_in.result
          c.repetition_in.new.repetition c.repetition_in.ensures.reads));
    }
