use Rattle.lvl_columns.specs.Windows.{IsShown, window_of}
use Rattle.lvl_columns.proofs.Windows.{same_in, differ_in, shown_in, least_in}
use Rattle.lvl_columns.proofs.window.difference_in.Goals as goal

pub returns-clause-same : goal.returns-clause-same
returns-clause-same c =
    same_in (IsShown (window_of c.args.window)) (c.args.first.now, c.args.second.now) c.in_ok-found.found
    c.in_ok-found.ensures

pub returns-clause-differ : goal.returns-clause-differ
returns-clause-differ c =
    differ_in (IsShown (window_of c.args.window)) (c.args.first.now, c.args.second.now) c.in_ok-found.found
    c.in_ok-found.ensures

pub returns-clause-shown : goal.returns-clause-shown
returns-clause-shown c =
    shown_in (IsShown (window_of c.args.window)) (c.args.first.now, c.args.second.now) c.in_ok-found.found
    c.in_ok-found.ensures

pub returns-clause-least : goal.returns-clause-least
returns-clause-least c =
    least_in (IsShown (window_of c.args.window)) (c.args.first.now, c.args.second.now) c.in_ok-found.found
    c.in_ok-found.ensures
