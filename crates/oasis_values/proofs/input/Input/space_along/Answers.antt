use Rattle.std.proofs.Common.{sym}
use Rattle.std.proofs.lemmas.Result.{err_from_is_err_and}
use Rattle.oasis_values.specs.Repetitions.{space}
use Rattle.oasis_values.proofs.Reading.{reads_seen_as, reads_seen_err}
use Rattle.oasis_values.proofs.input.Input.space_along.Goals as goal

pub returns-in_err-far : goal.returns-in_err-far
returns-in_err-far g c =
    let p = err_from_is_err_and c.from_residual.result c.from_residual.ensures.1 in
    rw (p.1, p.2) (record { reads = reads_seen_err (space c.args.along_x) c.in_err-far.ensures.reads })

pub returns : goal.returns
returns g c = record { reads = reads_seen_as (space c.args.along_x) c.in_ok-far.ensures.reads (sym c.space.ensures) }
