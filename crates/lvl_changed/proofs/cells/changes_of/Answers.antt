use Rattle.lvl_changed.proofs.cells.changes_of.Goals as goal

pub returns : goal.returns
returns c = λ found l s out.
    c.in_ok-rests.ensures found l s
    (λ h. out (c.in_ok-hold_rests.ensures.kept.has l s (c.in_ok-rests-2.ensures.kept.has l s h)))
    (c.in_ok-rests-2.ensures.same found l s (λ h. out (c.in_ok-hold_rests.ensures.kept.has l s h))
    (c.in_ok-hold_rests.ensures.held l s out))
