use Rattle.oasis_records.proofs.Codes.{if_code, position_code}
use Rattle.oasis_records.specs.Fields.{has}
use Rattle.oasis_records.specs.Rectangles.{rectangle}
use Rattle.oasis_values.proofs.Codes.{then_code, seen_code}
use Rattle.oasis_values.proofs.Integers.{unsigned_code}
use Rattle.oasis_values.proofs.Reading.{reads_err, reads_then}
use Rattle.oasis_records.proofs.Ruling.{reads_in}
use Rattle.std.proofs.lemmas.Result.{err_from_is_err_and}
use Rattle.oasis_records.proofs.rectangle.rectangle_of.Goals as goal

pub returns-in_err-rectangle : goal.returns-in_err-rectangle
returns-in_err-rectangle g c =
    let p = err_from_is_err_and c.from_residual.result c.from_residual.ensures.1 in
    rw (p.1, p.2) (record {
      reads = reads_err _
          (λ on. then_code (if_code _ unsigned_code)
          (λ w. then_code (if_code _ unsigned_code)
          (λ h. seen_code (rectangle (has c.args.info 0x80) on w h) (position_code c.args.info))))
          c.in_err-rectangle.ensures.reads;
    })

pub returns-in_err-rectangle-2 : goal.returns-in_err-rectangle-2
returns-in_err-rectangle-2 g c =
    let p = err_from_is_err_and c.from_residual-in_err-rectangle-2.result c.from_residual-in_err-rectangle-2.ensures.1 in
    rw (p.1, p.2) (record {
      reads = reads_then _ c.in_ok-rectangle.ensures.reads
          (reads_err _
          (λ w. then_code (if_code _ unsigned_code)
          (λ h. seen_code (rectangle (has c.args.info 0x80) c.in_ok-rectangle.field-0 w h) (position_code c.args.info)))
          c.in_err-rectangle-2.ensures.reads);
    })

pub returns-in_err-rectangle-3 : goal.returns-in_err-rectangle-3
returns-in_err-rectangle-3 g c =
    let p = err_from_is_err_and c.from_residual-in_err-rectangle-3.result c.from_residual-in_err-rectangle-3.ensures.1 in
    rw (p.1, p.2) (record {
      reads = reads_then _ c.in_ok-rectangle.ensures.reads
          (reads_then _ c.in_ok-rectangle-2.ensures.reads
          (reads_err _
          (λ h. seen_code (rectangle (has c.args.info 0x80) c.in_ok-rectangle.field-0 c.in_ok-rectangle-2.field-0 h)
          (position_code c.args.info)) c.in_err-rectangle-3.ensures.reads));
    })

pub returns : goal.returns
returns g c =
    rw c.has-rectangle.ensures
    (record {
      reads = reads_then _ c.in_ok-rectangle.ensures.reads
          (reads_then _ c.in_ok-rectangle-2.ensures.reads
          (reads_then _ c.in_ok-rectangle-3.ensures.reads
          (reads_in
          (rectangle (has c.args.info 0x80) c.in_ok-rectangle.field-0 c.in_ok-rectangle-2.field-0
          c.in_ok-rectangle-3.field-0) c.position_in.result c.position_in.new.position c.position_in.ensures.reads)));
    })
