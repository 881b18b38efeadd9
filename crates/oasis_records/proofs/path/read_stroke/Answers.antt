use Rattle.oasis_records.proofs.Shapes.{stroke_of_code}
use Rattle.oasis_values.proofs.Reading.{reads_err, reads_then}
use Rattle.std.proofs.lemmas.Result.{err_from_is_err_and}
use Rattle.oasis_records.proofs.path.read_stroke.Goals as goal

pub returns-in_err-info : goal.returns-in_err-info
returns-in_err-info g c =
    let p = err_from_is_err_and c.from_residual.result c.from_residual.ensures.1 in
    rw (p.1, p.2) (record { reads = reads_err _ (λ i. stroke_of_code i) c.in_err-info.ensures.reads })

pub returns : goal.returns
returns g c = record { reads = reads_then _ c.in_ok-info.ensures.reads (c.stroke_of.ensures.reads) }
