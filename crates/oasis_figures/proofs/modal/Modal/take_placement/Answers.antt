use Rattle.lvl_refusal.specs.declared.Cause.TheVariants.{Breach}
use Rattle.oasis_figures.specs.inside.Placements.{a_placement}
use Rattle.oasis_figures.proofs.Taking.{takes_refused}
use Rattle.oasis_figures.proofs.modal.Modal.take_placement.Goals as goal

pub returns-in_err-by : goal.returns-in_err-by
returns-in_err-by c = λ ignore.
    takes_refused ignore c.args.self.now (a_placement c.args.placement.now) c.from_residual.result
    (Breach c.in_err-by.field-0.0) c.from_residual.ensures (c.in_err-by.ensures.err ignore)
