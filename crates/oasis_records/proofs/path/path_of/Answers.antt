use Rattle.oasis_records.proofs.Codes.{position_code}
use Rattle.oasis_records.specs.Paths.{path}
use Rattle.oasis_values.proofs.Codes.{seen_code}
use Rattle.oasis_values.proofs.Reading.{reads_err, reads_seen, reads_seen_err, reads_then}
use Rattle.std.proofs.lemmas.Result.{err_from_is_err_and}
use Rattle.oasis_records.proofs.path.path_of.Goals as goal

pub returns-in_err-points : goal.returns-in_err-points
returns-in_err-points g c =
    let p = err_from_is_err_and c.from_residual.result c.from_residual.ensures.1 in
    rw (p.1, p.2) (record {
      reads = reads_err _
          (λ ps. seen_code (path c.args.stroke ps) (position_code c.args.stroke.info))
          c.in_err-points.ensures.reads;
    })

pub returns-in_err-position : goal.returns-in_err-position
returns-in_err-position g c =
    let p = err_from_is_err_and c.from_residual-in_err-position.result c.from_residual-in_err-position.ensures.1 in
    rw (p.1, p.2) (record {
      reads = reads_then _ c.in_ok-points.ensures.reads
          (reads_seen_err _ c.in_err-position.ensures.reads);
    })

pub returns : goal.returns
returns g c = record { reads = reads_then _ c.in_ok-points.ensures.reads (reads_seen _ c.in_ok-position.ensures.reads) }
