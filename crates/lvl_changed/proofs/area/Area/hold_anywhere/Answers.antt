use Rattle.lvl_changed.proofs.area.Area.hold_anywhere.Goals as goal

pub returns : goal.returns
returns c = λ l s. (c.add_every.ensures l, c.hold_anywhere.ensures s)
