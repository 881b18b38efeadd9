use Rattle.std.proofs.Common.{inr, subst, sym}
use Rattle.lvl_flat.specs.inside.Walking.{AllListed}
use Rattle.lvl_flat.proofs.windowed.check_range.Goals as goal

pub flatten_within-requires-clause-fits : goal.flatten_within-requires-clause-fits
flatten_within-requires-clause-fits c =
    inr (subst (AllListed c.deref.result.now) c.cells.ensures.value
    (subst (λ ls. AllListed ls c.cells.result.now) (sym c.deref.ensures.value) c.in_ok-layers.ensures.all))
