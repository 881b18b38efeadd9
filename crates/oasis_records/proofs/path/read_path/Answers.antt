use Rattle.oasis_records.proofs.Ruling.{reads_go, reads_plain, reads_stop}
use Rattle.oasis_records.proofs.Shapes.{path_of_code}
use Rattle.std.proofs.Common.{Ok}
use Rattle.std.proofs.lemmas.Result.{err_from_is_err_and}
use Rattle.oasis_values.proofs.Codes.{seen_code}
use Rattle.oasis_records.proofs.path.read_path.Goals as goal

pub returns-in_err-stroke : goal.returns-in_err-stroke
returns-in_err-stroke g c =
    let p = err_from_is_err_and c.from_residual.result c.from_residual.ensures.1 in
    rw (p.1, p.2) (record { reads = reads_stop _ _ (λ s. seen_code Ok (path_of_code s)) c.in_err-stroke.ensures.reads })

pub returns : goal.returns
returns g c =
    rw c.of_values.ensures
    (record { reads = reads_go _ c.in_ok-stroke.ensures.reads (reads_plain _ c.path_of.ensures.reads) })
