use Rattle.oasis_records.specs.Cells.{IsCellRef}
use Rattle.oasis_records.specs.Fields.{If, has}
use Rattle.oasis_values.proofs.Reading.{reads_case, reads_seen, reads_seen_err}
use Rattle.std.proofs.Common.{Some, sym, true, ◌∙◌}
use Rattle.std.proofs.lemmas.Result.{err_from_is_err_and}
use Rattle.oasis_records.proofs.placement.cell_if.Goals as goal

pub returns-in_err-cell : goal.returns-in_err-cell
returns-in_err-cell g c =
    let p = err_from_is_err_and c.from_residual.result c.from_residual.ensures.1 in
    let q = rw c.has-by_number.ensures at c.in_err-cell.ensures.reads in
    rw (p.1, p.2) (record {
      reads = reads_case (λ b. If b (IsCellRef (has c.args.info 0x40))) (has c.args.info 0x80)
          true (sym c.has.ensures ∙ c.if-has.true) (reads_seen_err Some q);
    })

pub returns-then-has : goal.returns-then-has
returns-then-has g c =
    let q = rw c.has-by_number.ensures at c.in_ok-cell.ensures.reads in
    record {
      reads = reads_case (λ b. If b (IsCellRef (has c.args.info 0x40))) (has c.args.info 0x80) true
          (sym c.has.ensures ∙ c.if-has.true) (reads_seen Some q);
    }
