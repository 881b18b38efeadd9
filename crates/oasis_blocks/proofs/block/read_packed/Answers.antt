use Rattle.std.proofs.lemmas.Result.{err_from_is_err_and}
use Rattle.oasis_values.proofs.Reading.{reads_err, reads_seen, reads_seen_err, reads_then, reads_refutes}
use Rattle.oasis_blocks.proofs.Codes.{packed_of_code, packed_code}
use Rattle.oasis_blocks.proofs.block.read_packed.Goals as goal

pub returns-in_err-count : goal.returns-in_err-count
returns-in_err-count g c =
    let p = err_from_is_err_and c.from_residual.result c.from_residual.ensures.1 in
    let read = reads_err _ packed_of_code c.in_err-count.ensures.reads in
    rw (p.1, p.2) (record { reads = read; none = reads_refutes packed_code read })

pub returns-in_err-bytes : goal.returns-in_err-bytes
returns-in_err-bytes g c =
    let p = err_from_is_err_and c.from_residual-in_err-bytes.result c.from_residual-in_err-bytes.ensures.1 in
    let read = reads_then _ c.in_ok-count.ensures.reads (reads_seen_err _ c.in_err-bytes.ensures.reads) in
    rw (p.1, p.2) (record { reads = read; none = reads_refutes packed_code read })

pub returns : goal.returns
returns g c =
    let read = reads_then _ c.in_ok-count.ensures.reads (reads_seen _ c.in_ok-bytes.ensures.reads) in
    record { reads = read; none = reads_refutes packed_code read }
