use Rattle.lvl_columns.proofs.Halving.{least_of_sweep}
use Rattle.lvl_columns.proofs.columns.swept.Goals as goal

pub returns : goal.returns
returns c =
    least_of_sweep c.args.first.now c.args.second.now c.args.known c.in_ok-found.found c.lesser.result
    (rw c.row_of.ensures at c.in_ok-found.ensures.same) c.in_ok-found.ensures.differ c.in_ok-found.ensures.least
    c.lesser.ensures.one c.lesser.ensures.bound
