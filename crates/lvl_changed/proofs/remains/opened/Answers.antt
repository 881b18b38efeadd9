use Rattle.std.proofs.lemmas.Result.{IfOk-weaker}
use Rattle.lvl_changed.proofs.Remaining.{same_if_opened}
use Rattle.lvl_changed.proofs.remains.opened.Goals as goal

pub returns-in_ok-open_ours-in-Ours-clause-same : goal.returns-in_ok-open_ours-in-Ours-clause-same
returns-in_ok-open_ours-in-Ours-clause-same c =
    IfOk-weaker c.left.result _ _
    (λ left same found l s out.
    same_if_opened _ _ _ _ _ _ (c.in_ok-open_ours-in-Ours.ensures.opened found l s out) (same c.args.pair.now l s))
    c.left.ensures

pub returns-in_ok-open_theirs-in-Theirs-clause-same : goal.returns-in_ok-open_theirs-in-Theirs-clause-same
returns-in_ok-open_theirs-in-Theirs-clause-same c =
    IfOk-weaker c.left-in-Theirs.result _ _
    (λ left same found l s out.
    same_if_opened _ _ _ _ _ _ (c.in_ok-open_theirs-in-Theirs.ensures l s) (same c.args.pair.now l s)) c.left-in-Theirs.ensures
