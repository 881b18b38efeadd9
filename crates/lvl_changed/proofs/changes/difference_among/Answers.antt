use Rattle.std.proofs.Common.{Contains, sym}
use Rattle.std.proofs.lemmas.Result.{IfOk-weaker}
use Rattle.lvl_changed.proofs.Seeing.{but_changes, listed_apart, listed_same, seen_apart, seen_same}
use Rattle.lvl_changed.proofs.changes.difference_among.Goals as goal

pub returns-in-Some-clause-same : goal.returns-in-Some-clause-same
returns-in-Some-clause-same c =
    IfOk-weaker c.difference_on_layers.result _ _
    (λ found same out. listed_same _ _ _ _ _ found
    (but_changes _ _ c.args.changes.now (Contains c.deref.result.now) _
    (λ l h. rw (sym c.deref.ensures.value) at (rw c.in-Some.is at h)) c.deref-in-Some.ensures.value out) same)
    c.difference_on_layers.ensures.same

pub returns-in-Some-clause-differ : goal.returns-in-Some-clause-differ
returns-in-Some-clause-differ c =
    IfOk-weaker c.difference_on_layers.result _ _
    (λ found differ out. listed_apart _ _ _ _ _ found
    (but_changes _ _ c.args.changes.now (Contains c.deref.result.now) _
    (λ l h. rw (sym c.deref.ensures.value) at (rw c.in-Some.is at h)) c.deref-in-Some.ensures.value out) differ)
    c.difference_on_layers.ensures.differ

pub returns-in-None-clause-same : goal.returns-in-None-clause-same
returns-in-None-clause-same c =
    IfOk-weaker c.difference_in_windows.result _ _
    (λ found same out. seen_same _ _ _ _ found
    (but_changes _ _ c.args.changes.now _ _ (λ l h. tt) c.deref-in-None.ensures.value out) same)
    c.difference_in_windows.ensures.same

pub returns-in-None-clause-differ : goal.returns-in-None-clause-differ
returns-in-None-clause-differ c =
    IfOk-weaker c.difference_in_windows.result _ _
    (λ found differ out. seen_apart _ _ _ _ found
    (but_changes _ _ c.args.changes.now _ _ (λ l h. tt) c.deref-in-None.ensures.value out) differ)
    c.difference_in_windows.ensures.differ
