use Rattle.lvl_columns.proofs.Leaving.{least_left}
use Rattle.lvl_columns.proofs.cancel.difference_left.Goals as goal

pub returns-clause-least : goal.returns-clause-least
returns-clause-least c =
    least_left c.args.first.now c.args.second.now _ _ c.in_ok-found.found.found (rw c.in-Some.is at c.in_ok-ours.ensures)
    c.in_ok-found.ensures.found
