use Rattle.lvl_changed.proofs.rests.known_among.Goals as goal

pub returns-in_default : goal.returns-in_default
returns-in_default c = rw c.in_default.is at (c.in_ok-found.ensures.same c.requires)

pub returns : goal.returns
returns c = rw c.in-Some.is at (c.in_ok-found.ensures.differ c.requires)
