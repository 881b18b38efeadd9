use Rattle.std.proofs.Common.{sym}
use Rattle.std.proofs.lemmas.Result.{err_from_is_err_and}
use Rattle.oasis_values.specs.Repetitions.{widened}
use Rattle.oasis_values.proofs.Reading.{reads_seen_as, reads_seen_err}
use Rattle.oasis_values.proofs.input.Input.space_free.Goals as goal

pub returns-in_err-delta : goal.returns-in_err-delta
returns-in_err-delta g c =
    let p = err_from_is_err_and c.from_residual.result c.from_residual.ensures.1 in
    rw (p.1, p.2) (record { reads = reads_seen_err widened c.in_err-delta.ensures.reads })

pub returns : goal.returns
returns g c = record { reads = reads_seen_as widened c.in_ok-delta.ensures.reads (sym c.widened.ensures) }
