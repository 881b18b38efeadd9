use Rattle.std.proofs.lemmas.Result.{err_from_is_err_and}
use Rattle.std.proofs.Common.{Some, true, sym, ◌∙◌}
use Rattle.oasis_values.specs.Repetitions.{IsRepetition}
use Rattle.oasis_values.proofs.Reading.{reads_case, reads_seen, reads_seen_err}
use Rattle.oasis_records.specs.Fields.{has, If}
use Rattle.oasis_records.proofs.fields.repetition_if.Goals as goal

pub returns-in_err-repetition : goal.returns-in_err-repetition
returns-in_err-repetition g c =
    let p = err_from_is_err_and c.from_residual.result c.from_residual.ensures.1 in
    rw (p.1, p.2) (record {
      reads = reads_case (λ b. If b (IsRepetition true)) (has c.args.info c.args.letter) true
          (sym c.has.ensures ∙ c.if-has.true) (reads_seen_err Some c.in_err-repetition.ensures.reads);
    })

pub returns-then-has : goal.returns-then-has
returns-then-has g c =
    record {
      reads = reads_case (λ b. If b (IsRepetition true)) (has c.args.info c.args.letter) true
          (sym c.has.ensures ∙ c.if-has.true) (reads_seen Some c.in_ok-repetition.ensures.reads);
    }
