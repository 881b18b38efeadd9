use Rattle.oasis_records.specs.Cells.{numbered}
use Rattle.oasis_values.proofs.Codes.{seen_code}
use Rattle.oasis_values.proofs.Integers.{unsigned_code}
use Rattle.oasis_values.proofs.Reading.{reads_err, reads_seen, reads_seen_err, reads_then}
use Rattle.std.proofs.lemmas.Result.{err_from_is_err_and}
use Rattle.oasis_records.proofs.cell.read_numbered_name.Goals as goal

pub returns-in_err-name : goal.returns-in_err-name
returns-in_err-name g c =
    let p = err_from_is_err_and c.from_residual.result c.from_residual.ensures.1 in
    rw (p.1, p.2) (record {
      reads = reads_err _ (λ n. seen_code (numbered n) unsigned_code)
          c.in_err-name.ensures.reads;
    })

pub returns-in_err-number : goal.returns-in_err-number
returns-in_err-number g c =
    let p = err_from_is_err_and c.from_residual-in_err-number.result c.from_residual-in_err-number.ensures.1 in
    rw (p.1, p.2) (record {
      reads = reads_then _ c.in_ok-name.ensures.reads
          (reads_seen_err _ c.in_err-number.ensures.reads);
    })

pub returns : goal.returns
returns g c = record { reads = reads_then _ c.in_ok-name.ensures.reads (reads_seen _ c.in_ok-number.ensures.reads) }
