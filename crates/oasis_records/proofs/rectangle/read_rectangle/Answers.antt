use Rattle.oasis_records.proofs.Ruling.{reads_go, reads_plain_in, reads_stop}
use Rattle.oasis_records.proofs.Shapes.{rectangle_of_code}
use Rattle.std.proofs.Common.{Ok}
use Rattle.std.proofs.lemmas.Result.{err_from_is_err_and}
use Rattle.oasis_values.proofs.Codes.{seen_code}
use Rattle.oasis_records.proofs.rectangle.read_rectangle.Goals as goal

pub returns-in_err-info : goal.returns-in_err-info
returns-in_err-info g c =
    let p = err_from_is_err_and c.from_residual.result c.from_residual.ensures.1 in
    rw (p.1, p.2) (record {
      reads = reads_stop _ _ (λ i. seen_code Ok (rectangle_of_code i))
          c.in_err-info.ensures.reads;
    })

pub returns : goal.returns
returns g c =
    record {
      reads = reads_go _ c.in_ok-info.ensures.reads
          (reads_plain_in c.rectangle_in.result c.of_values.result c.rectangle_in.new.record c.of_values.ensures
          c.rectangle_in.ensures.reads);
    }
