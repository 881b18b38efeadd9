use Rattle.lvl_columns.proofs.Halving.{first_same, first_differ, first_least}
use Rattle.lvl_columns.proofs.columns.compare_by_columns.Goals as goal

pub returns-clause-same : goal.returns-clause-same
returns-clause-same c =
    first_same (c.args.first.now, c.args.second.now) c.in_ok-found.found.found c.in_ok-found.ensures.found

pub returns-clause-differ : goal.returns-clause-differ
returns-clause-differ c =
    first_differ (c.args.first.now, c.args.second.now) c.in_ok-found.found.found c.in_ok-found.ensures.found

pub returns-clause-least : goal.returns-clause-least
returns-clause-least c =
    first_least (c.args.first.now, c.args.second.now) c.in_ok-found.found.found c.in_ok-found.ensures.found
