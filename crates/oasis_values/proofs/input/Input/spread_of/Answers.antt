use Rattle.std.proofs.lemmas.Result.{err_from_is_err_and}
use Rattle.oasis_values.specs.Repetitions.{AreShifts}
use Rattle.oasis_values.proofs.Reading.{reads_err, reads_then}
use Rattle.oasis_values.proofs.Places.{shifts_code}
use Rattle.oasis_values.proofs.input.Input.spread_of.Goals as goal

pub returns-in_err-grid : goal.returns-in_err-grid
returns-in_err-grid g c =
    let p = err_from_is_err_and c.from_residual.result c.from_residual.ensures.1 in
    rw (p.1, p.2) (record {
      reads = reads_err (AreShifts c.args.spacing c.args.count)
          (shifts_code c.args.spacing c.args.count) c.in_err-grid.ensures.reads;
    })

pub returns : goal.returns
returns g c =
    record {
      reads = reads_then (AreShifts c.args.spacing c.args.count) c.in_ok-grid.ensures.reads
          c.shifts.ensures.reads;
    }
