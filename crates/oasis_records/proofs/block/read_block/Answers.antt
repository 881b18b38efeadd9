use Rattle.oasis_records.proofs.Others.{block_of_code}
use Rattle.oasis_records.proofs.Ruling.{reads_go, reads_plain, reads_stop}
use Rattle.std.proofs.Common.{Ok}
use Rattle.std.proofs.lemmas.Result.{err_from_is_err_and}
use Rattle.oasis_values.proofs.Codes.{seen_code}
use Rattle.oasis_records.proofs.block.read_block.Goals as goal

pub returns-in_err-_compression : goal.returns-in_err-_compression
returns-in_err-_compression g c =
    let p = err_from_is_err_and c.from_residual.result c.from_residual.ensures.1 in
    rw (p.1, p.2) (record {
      reads = reads_stop _ _ (λ _. seen_code Ok block_of_code) c.in_err-_compression.ensures.reads;
    })

pub returns : goal.returns
returns g c =
    rw c.of_values.ensures
    (record { reads = reads_go _ c.in_ok-_compression.ensures.reads (reads_plain _ c.block_of.ensures.reads) })
