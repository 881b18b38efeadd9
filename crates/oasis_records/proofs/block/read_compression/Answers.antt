use Rattle.oasis_values.proofs.Codes.{gives_code}
use Rattle.oasis_values.proofs.Reading.{reads_err}
use Rattle.std.proofs.lemmas.Result.{err_from_is_err_and}
use Rattle.oasis_records.proofs.block.read_compression.Goals as goal

pub returns-in_err-compression : goal.returns-in_err-compression
returns-in_err-compression g c =
    let p = err_from_is_err_and c.from_residual.result c.from_residual.ensures.1 in
    rw (p.1, p.2) (record { reads = reads_err _ (λ x. gives_code) c.in_err-compression.ensures.reads })
