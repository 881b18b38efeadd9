use Rattle.lvl_compare.proofs.regions.difference_of.Goals as goal

pub returns-clause-same : goal.returns-clause-same
returns-clause-same g c =
    rw (c.deref.ensures.value, c.deref-2.ensures.value, c.in_ok-first.ensures, c.in_ok-second.ensures) at
    c.difference.ensures.same

pub returns-clause-differ : goal.returns-clause-differ
returns-clause-differ g c =
    rw (c.deref.ensures.value, c.deref-2.ensures.value, c.in_ok-first.ensures, c.in_ok-second.ensures) at
    c.difference.ensures.differ
