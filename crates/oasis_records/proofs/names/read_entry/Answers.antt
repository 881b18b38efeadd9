use Rattle.std.proofs.lemmas.Result.{err_from_is_err_and}
use Rattle.std.proofs.Common.{Ok}
use Rattle.oasis_values.proofs.Codes.{gives_code}
use Rattle.oasis_values.proofs.Reading.{reads_nothing}
use Rattle.oasis_records.proofs.Ruling.{reads_go, reads_stop}
use Rattle.oasis_records.specs.declared.record.Record.TheVariants.{Entry}
use Rattle.oasis_records.proofs.names.read_entry.Goals as goal

pub returns-in_err-skip_entry : goal.returns-in_err-skip_entry
returns-in_err-skip_entry g c =
    let p = err_from_is_err_and c.from_residual.result c.from_residual.ensures.1 in
    rw (p.1, p.2) (record { reads = reads_stop _ _ (λ _. gives_code) c.in_err-skip_entry.ensures.reads })

pub returns : goal.returns
returns g c =
    let q = c.in_ok-skip_entry.ensures.reads in
    record { reads = reads_go _ q (reads_nothing (Ok Entry) q.failed) }
