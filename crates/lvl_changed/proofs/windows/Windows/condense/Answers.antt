use Rattle.lvl_changed.proofs.Widening.{widens_further}
use Rattle.lvl_changed.proofs.windows.Windows.condense.Goals as goal

pub loop-self-preserved : goal.loop-self-preserved
loop-self-preserved c = widens_further _ _ _ c.loop-self.invariant c.join_next.ensures.kept
