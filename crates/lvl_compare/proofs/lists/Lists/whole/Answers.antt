use Rattle.lvl_compare.proofs.lists.Lists.whole.Goals as goal

pub returns : goal.returns
returns c = λ w. record { ours = c.candidates.ensures w; theirs = c.candidates-2.ensures w }
