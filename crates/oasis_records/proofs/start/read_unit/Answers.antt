use Rattle.std.proofs.lemmas.Result.{err_from_is_err_and}
use Rattle.oasis_values.proofs.Codes.{gives_code}
use Rattle.oasis_values.proofs.Reading.{reads_err, reads_then, reads_nothing}
use Rattle.oasis_records.specs.Rules.{obeyed, Must}
use Rattle.oasis_records.specs.Starts.{is_unit}
use Rattle.oasis_records.specs.declared.fault.RecordRule.TheVariants.{Unit as NoUnit}
use Rattle.oasis_records.proofs.start.read_unit.Goals as goal

pub returns-in_err-unit : goal.returns-in_err-unit
returns-in_err-unit g c =
    let p = err_from_is_err_and c.from_residual.result c.from_residual.ensures.1 in
    rw (p.1, p.2) (record { reads = reads_err _ (λ x. gives_code) c.in_err-unit.ensures.reads })

pub returns : goal.returns
returns g c =
    let u = c.in_ok-unit.unit in
    let p = c.in_ok-unit.ensures.reads in
    rw (c.must.ensures, c.is_unit.ensures)
    (record {
      reads = reads_then (λ r. Must (is_unit r) r NoUnit) p
          (reads_nothing (obeyed (is_unit u) u NoUnit) p.failed);
    })
