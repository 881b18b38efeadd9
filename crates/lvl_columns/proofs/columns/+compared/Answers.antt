use Rattle.std.proofs.lemmas.Result.{IfOk-weaker}
use Rattle.lvl_columns.specs.Columns.{lists_of}
use Rattle.lvl_columns.proofs.Halving.{least_of_halves}
use Rattle.lvl_columns.proofs.columns.+compared.Goals as goal

pub returns-clause-found : goal.returns-clause-found
returns-clause-found t c =
    IfOk-weaker c.compared-2.result _ _
    (λ it h. least_of_halves (lists_of c.args.column) (lists_of c.in_ok-left.left) (lists_of c.in_ok-left.right)
    _ c.args.known.found c.in_ok-half.half.found it.found c.in_ok-left.ensures.left
    c.in_ok-left.ensures.right c.in_ok-half.ensures.found h) c.compared-2.ensures.found
