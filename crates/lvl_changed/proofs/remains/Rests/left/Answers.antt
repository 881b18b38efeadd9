use Rattle.lvl_changed.proofs.Remaining.{same_besides}
use Rattle.lvl_changed.proofs.remains.Rests.left.Goals as goal

pub returns : goal.returns
returns c = λ pair l s. same_besides (c.in_ok-ours.ensures pair l s)
