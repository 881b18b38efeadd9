use Rattle.oasis_values.proofs.Reading.{reads_seen, reads_seen_err}
use Rattle.std.proofs.lemmas.Result.{err_from_is_err_and}
use Rattle.oasis_records.proofs.block.block_of.Goals as goal

pub returns-in_err-block : goal.returns-in_err-block
returns-in_err-block g c =
    let p = err_from_is_err_and c.from_residual.result c.from_residual.ensures.1 in
    rw (p.1, p.2) (record { reads = reads_seen_err _ c.in_err-block.ensures.reads })

pub returns : goal.returns
returns g c = record { reads = reads_seen _ c.in_ok-block.ensures.reads }
