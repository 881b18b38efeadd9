use Rattle.oasis_values.proofs.Reading.{reads_nothing, reads_seen, reads_seen_err}
use Rattle.std.proofs.lemmas.Result.{err_from_is_err_and}
use Rattle.oasis_records.proofs.end.read_signature.Goals as goal

pub returns-then-is_absent : goal.returns-then-is_absent
returns-then-is_absent g c = rw c.if-is_absent.true (record { reads = reads_nothing _ c.requires })

pub returns-in_err-bytes : goal.returns-in_err-bytes
returns-in_err-bytes g c =
    let p = err_from_is_err_and c.from_residual.result c.from_residual.ensures.1 in
    rw (p.1, p.2, c.if-is_absent.false) (record { reads = reads_seen_err _ c.in_err-bytes.ensures.reads })

pub returns : goal.returns
returns g c =
    rw (c.signed.ensures, c.is_crc.ensures, c.if-is_absent.false)
    (record { reads = reads_seen _ c.in_ok-bytes.ensures.reads })
