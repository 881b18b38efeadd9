use Rattle.std.proofs.lemmas.Result.{IfOk-weaker}
use Rattle.lvl_compare.proofs.InStrips.{found_apart, found_same}
use Rattle.lvl_compare.proofs.InWindows.{ours_seen, theirs_seen}
use Rattle.lvl_compare.proofs.windows.difference_by_strips.Goals as goal

pub returns-clause-same : goal.returns-clause-same
returns-clause-same c =
    IfOk-weaker c.difference_in_windows.result _ _
    (λ found. found_same _ _ _ _ found (ours_seen _ _ _ _ c.extent.ensures) (theirs_seen _ _ _ _ _ c.extent-2.ensures))
    (rw (c.from_ref-windows.ensures.value, c.joined-window.ensures) at c.difference_in_windows.ensures.same)

pub returns-clause-differ : goal.returns-clause-differ
returns-clause-differ c =
    IfOk-weaker c.difference_in_windows.result _ _
    (λ found. found_apart _ _ _ _ found (λ q seen. seen.0) (ours_seen _ _ _ _ c.extent.ensures)
    (theirs_seen _ _ _ _ _ c.extent-2.ensures))
    (rw (c.from_ref-windows.ensures.value, c.joined-window.ensures) at c.difference_in_windows.ensures.differ)
