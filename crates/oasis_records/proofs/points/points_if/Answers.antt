use Rattle.oasis_records.specs.Fields.{If, has}
use Rattle.oasis_values.proofs.Reading.{reads_case, reads_seen, reads_seen_err}
use Rattle.oasis_values.specs.PointLists.{IsPointList}
use Rattle.std.proofs.Common.{Some, sym, true, ◌∙◌}
use Rattle.std.proofs.lemmas.Result.{err_from_is_err_and}
use Rattle.oasis_records.proofs.points.points_if.Goals as goal

pub returns-in_err-points : goal.returns-in_err-points
returns-in_err-points g c =
    let p = err_from_is_err_and c.from_residual.result c.from_residual.ensures.1 in
    rw (p.1, p.2) (record {
      reads = reads_case (λ b. If b (IsPointList c.args.purpose)) (has c.args.info 0x20) true
          (sym c.has.ensures ∙ c.if-has.true) (reads_seen_err Some c.in_err-points.ensures.reads);
    })

pub returns-then-has : goal.returns-then-has
returns-then-has g c =
    record {
      reads = reads_case (λ b. If b (IsPointList c.args.purpose)) (has c.args.info 0x20) true
          (sym c.has.ensures ∙ c.if-has.true) (reads_seen Some c.in_ok-points.ensures.reads);
    }
