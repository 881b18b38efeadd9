use Rattle.oasis_values.proofs.Integers.{unsigned_code}
use Rattle.oasis_values.proofs.Reading.{reads_err, reads_then}
use Rattle.std.proofs.lemmas.Result.{err_from_is_err_and}
use Rattle.oasis_records.proofs.end.read_padding_length.Goals as goal

pub returns-in_err-_offsets : goal.returns-in_err-_offsets
returns-in_err-_offsets g c =
    let p = err_from_is_err_and c.from_residual.result c.from_residual.ensures.1 in
    rw (p.1, p.2) (record { reads = reads_err _ (λ t. unsigned_code) c.in_err-_offsets.ensures.reads })

pub returns : goal.returns
returns g c = record { reads = reads_then _ c.in_ok-_offsets.ensures.reads (c.unsigned.ensures.reads) }
