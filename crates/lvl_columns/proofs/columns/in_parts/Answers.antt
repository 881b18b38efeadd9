use Rattle.std.proofs.Common.{None}
use Rattle.lvl_columns.specs.Columns.{Lists, lists_of}
use Rattle.lvl_columns.proofs.Halving.{least_of_halves}
use Rattle.lvl_columns.proofs.columns.in_parts.Goals as goal

pub returns-clause-found : goal.returns-clause-found
returns-clause-found c =
    let whole : Lists = (c.args.first.now, c.args.second.now) in
    least_of_halves whole (lists_of c.in_ok-left.left) (lists_of c.in_ok-right.right) _ None c.in_ok-half.half.found
    c.in_ok-whole.whole.found c.in_ok-left.ensures c.in_ok-right.ensures c.in_ok-half.ensures.found
    c.in_ok-whole.ensures.found
