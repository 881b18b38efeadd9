use Rattle.lvl_refusal.specs.declared.Cause.TheVariants.{Breach}
use Rattle.oasis_figures.specs.inside.Rectangles.{a_rectangle}
use Rattle.oasis_figures.proofs.Taking.{takes_refused}
use Rattle.oasis_figures.proofs.modal.Modal.take_rectangle.Goals as goal

pub returns-in_err-values : goal.returns-in_err-values
returns-in_err-values c = λ ignore.
    takes_refused ignore c.args.self.now (a_rectangle c.args.rectangle.now) c.from_residual.result
    (Breach c.in_err-values.field-0.0) c.from_residual.ensures (c.in_err-values.ensures.err ignore)
