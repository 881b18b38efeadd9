use Rattle.oasis_records.proofs.Codes.{if_code, position_code}
use Rattle.oasis_records.specs.Polygons.{polygon}
use Rattle.oasis_values.proofs.Codes.{then_code, seen_code}
use Rattle.oasis_values.proofs.Lists.{point_list_code}
use Rattle.oasis_values.proofs.Reading.{reads_err, reads_seen, reads_seen_err, reads_then}
use Rattle.std.proofs.lemmas.Result.{err_from_is_err_and}
use Rattle.oasis_values.specs.declared.point_list.Use.TheVariants.{Polygon as ForPolygon}
use Rattle.oasis_records.proofs.polygon.polygon_of.Goals as goal

pub returns-in_err-on : goal.returns-in_err-on
returns-in_err-on g c =
    let p = err_from_is_err_and c.from_residual.result c.from_residual.ensures.1 in
    rw (p.1, p.2) (record {
      reads = reads_err _
          (λ on. then_code (if_code _ (point_list_code ForPolygon))
          (λ ps. seen_code (polygon on ps) (position_code c.args.info))) c.in_err-on.ensures.reads;
    })

pub returns-in_err-points : goal.returns-in_err-points
returns-in_err-points g c =
    let p = err_from_is_err_and c.from_residual-in_err-points.result c.from_residual-in_err-points.ensures.1 in
    rw (p.1, p.2) (record {
      reads = reads_then _ c.in_ok-on.ensures.reads
          (reads_err _ (λ ps. seen_code (polygon c.in_ok-on.on ps) (position_code c.args.info))
          c.in_err-points.ensures.reads);
    })

pub returns-in_err-position : goal.returns-in_err-position
returns-in_err-position g c =
    let p = err_from_is_err_and c.from_residual-in_err-position.result c.from_residual-in_err-position.ensures.1 in
    rw (p.1, p.2) (record {
      reads = reads_then _ c.in_ok-on.ensures.reads
          (reads_then _ c.in_ok-points.ensures.reads (reads_seen_err _ c.in_err-position.ensures.reads));
    })

pub returns : goal.returns
returns g c =
    record {
      reads = reads_then _ c.in_ok-on.ensures.reads
          (reads_then _ c.in_ok-points.ensures.reads (reads_seen _ c.in_ok-position.ensures.reads));
    }
