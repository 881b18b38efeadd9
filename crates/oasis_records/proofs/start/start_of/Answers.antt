use Rattle.oasis_records.proofs.Others.{flag_code, tables_code}
use Rattle.oasis_records.proofs.Ruling.{and_then_code, reads_go, reads_stop}
use Rattle.oasis_records.specs.Starts.{is_here, start}
use Rattle.oasis_values.proofs.Codes.{seen_code}
use Rattle.oasis_values.proofs.Reading.{reads_seen, reads_seen_err}
use Rattle.std.proofs.lemmas.Result.{err_from_is_err_and}
use Rattle.oasis_records.proofs.start.start_of.Goals as goal

pub returns-in_err-unit : goal.returns-in_err-unit
returns-in_err-unit g c =
    let p = err_from_is_err_and c.from_residual.result c.from_residual.ensures.1 in
    rw (p.1, p.2) (record {
      reads = reads_stop _ _
          (λ u. and_then_code flag_code (λ f. seen_code (start u) (tables_code (is_here f))))
          c.in_err-unit.ensures.reads;
    })

pub returns-in_err-flag : goal.returns-in_err-flag
returns-in_err-flag g c =
    let p = err_from_is_err_and c.from_residual-in_err-flag.result c.from_residual-in_err-flag.ensures.1 in
    rw (p.1, p.2) (record {
      reads = reads_go _ c.in_ok-unit.ensures.reads
          (reads_stop _ _ (λ f. seen_code (start c.in_ok-unit.unit) (tables_code (is_here f)))
          c.in_err-flag.ensures.reads);
    })

pub returns-in_err-are_here : goal.returns-in_err-are_here
returns-in_err-are_here g c =
    let p = err_from_is_err_and c.from_residual-in_err-are_here.result c.from_residual-in_err-are_here.ensures.1 in
    let q = rw c.is_here-here.ensures at c.in_err-are_here.ensures.reads in
    rw (p.1, p.2) (record {
      reads = reads_go _ c.in_ok-unit.ensures.reads
          (reads_go _ c.in_ok-flag.ensures.reads (reads_seen_err _ q));
    })

pub returns : goal.returns
returns g c =
    let q = rw c.is_here-here.ensures at c.in_ok-are_here.ensures.reads in
    record { reads = reads_go _ c.in_ok-unit.ensures.reads (reads_go _ c.in_ok-flag.ensures.reads (reads_seen _ q)) }
