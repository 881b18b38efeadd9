use Rattle.std.proofs.lemmas.Result.{IfOk-weaker}
use Rattle.lvl_changed.proofs.difference.difference_by_changes.Goals as goal

pub returns-in-Some-clause-same : goal.returns-in-Some-clause-same
returns-in-Some-clause-same c =
    let outside = rw c.in-Some.is at c.in_ok-changes.ensures in
    IfOk-weaker c.difference_among.result _ _ (λ found same. same outside) c.difference_among.ensures.same

pub returns-in-Some-clause-differ : goal.returns-in-Some-clause-differ
returns-in-Some-clause-differ c =
    let outside = rw c.in-Some.is at c.in_ok-changes.ensures in
    IfOk-weaker c.difference_among.result _ _ (λ found differ. differ outside) c.difference_among.ensures.differ
