use Rattle.std.proofs.Common.{Some, true, sym, ◌∙◌}
use Rattle.std.proofs.lemmas.Result.{err_from_is_err_and}
use Rattle.oasis_values.proofs.Reading.{reads_case, reads_seen, reads_seen_err}
use Rattle.oasis_records.specs.Fields.{has, If}
use Rattle.oasis_records.specs.Names.{IsStringRef}
use Rattle.oasis_records.proofs.fields.skip_string_if.Goals as goal

pub returns-in_err-skip_string_ref : goal.returns-in_err-skip_string_ref
returns-in_err-skip_string_ref g c =
    let p = err_from_is_err_and c.from_residual.result c.from_residual.ensures.1 in
    let q = rw c.has-by_number.ensures at c.in_err-skip_string_ref.ensures.reads in
    rw (p.1, p.2) (record {
      reads = reads_case (λ b. If b (IsStringRef c.args.kind (has c.args.info c.args.number)))
          (has c.args.info c.args.letter) true (sym c.has.ensures ∙ c.if-has.true) (reads_seen_err Some q);
    })

pub returns-then-has : goal.returns-then-has
returns-then-has g c =
    let q = rw c.has-by_number.ensures at c.in_ok-skip_string_ref.ensures.reads in
    record {
      reads = reads_case (λ b. If b (IsStringRef c.args.kind (has c.args.info c.args.number)))
          (has c.args.info c.args.letter) true (sym c.has.ensures ∙ c.if-has.true) (reads_seen Some q);
    }
