use Rattle.std.proofs.lemmas.Result.{IfOk-weaker}
use Rattle.lvl_flat.proofs.Listing.{still_listed}
use Rattle.lvl_flat.proofs.layers.layers_of.Goals as goal

pub returns-clause-all : goal.returns-clause-all
returns-clause-all c =
    IfOk-weaker c.in_order.result _ _
    (λ ordered all. still_listed _ ordered.items c.args.cells.now all c.in_ok-unordered_layers.ensures)
    c.in_order.ensures.all
