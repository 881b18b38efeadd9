use Rattle.lvl_refusal.specs.declared.Cause.TheVariants.{Breach}
use Rattle.oasis_figures.specs.inside.Taking.{a_text}
use Rattle.oasis_figures.proofs.Taking.{takes_refused}
use Rattle.oasis_figures.proofs.modal.Modal.take_text.Goals as goal

pub returns-in_err-test_text : goal.returns-in_err-test_text
returns-in_err-test_text c = λ ignore.
    takes_refused ignore c.args.self.now (a_text c.args.repetition) c.from_residual.result
    (Breach c.in_err-test_text.field-0.0) c.from_residual.ensures (c.in_err-test_text.ensures.err ignore)
