use Rattle.oasis_records.specs.declared.cell.CellRef.TheVariants.{Name, Number}
use Rattle.oasis_values.proofs.Reading.{reads_seen, reads_seen_err}
use Rattle.std.proofs.lemmas.Result.{err_from_is_err_and}
use Rattle.oasis_records.proofs.cell.read_cell_ref.Goals as goal

pub returns-in_err-number : goal.returns-in_err-number
returns-in_err-number g c =
    let p = err_from_is_err_and c.from_residual.result c.from_residual.ensures.1 in
    rw (p.1, p.2, c.if-by_number.true) (record { reads = reads_seen_err Number c.in_err-number.ensures.reads })

pub returns-then-by_number : goal.returns-then-by_number
returns-then-by_number g c = rw c.if-by_number.true (record { reads = reads_seen Number c.in_ok-number.ensures.reads })

pub returns-in_err-name : goal.returns-in_err-name
returns-in_err-name g c =
    let p = err_from_is_err_and c.from_residual-in_err-name.result c.from_residual-in_err-name.ensures.1 in
    rw (p.1, p.2, c.if-by_number.false) (record { reads = reads_seen_err Name c.in_err-name.ensures.reads })

pub returns : goal.returns
returns g c = rw c.if-by_number.false (record { reads = reads_seen Name c.in_ok-name.ensures.reads })
