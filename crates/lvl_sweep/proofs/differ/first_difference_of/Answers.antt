use Rattle.std.proofs.Common.{◌↔◌, IfNone}
use Rattle.std.proofs.lemmas.Result.{IfOk-weaker}
use Rattle.lvl_grid.specs.declared.point.Square.{Square}
use Rattle.lvl_grid.specs.Winding.{SomeCovers}
use Rattle.lvl_sweep.proofs.Lockstep.{in_all_rows}
use Rattle.lvl_sweep.proofs.differ.first_difference_of.Goals as goal

pub returns-clause-same : goal.returns-clause-same
returns-clause-same c =
    let Same : Square → Type 0 = λ s. SomeCovers c.args.first.now s ↔ SomeCovers c.args.second.now s in
    IfOk-weaker c.first_difference_up_to.result _ (λ found. IfNone found ((s : Square) → Same s))
    (λ found h. in_all_rows found Same h) c.first_difference_up_to.ensures.same
