use Rattle.std.proofs.lemmas.Result.{IfOk-weaker}
use Rattle.lvl_compare.proofs.InWindows.{part_apart, part_same}
use Rattle.lvl_compare.proofs.windows.difference_in_windows.Goals as goal

pub returns-clause-same : goal.returns-clause-same
returns-clause-same c =
    IfOk-weaker c.difference_by_groups.result _ _ (part_same _ _ _) c.difference_by_groups.ensures

pub returns-clause-differ : goal.returns-clause-differ
returns-clause-differ c =
    IfOk-weaker c.difference_by_groups.result _ _ (part_apart _ _ _) c.difference_by_groups.ensures
