use Rattle.std.proofs.Common.{arith}
use Rattle.lvl_changed.proofs.Widening.{widens_further}
use Rattle.lvl_changed.proofs.windows.Windows.join_at.Goals as goal

pub loop-i-preserved-then-is_close : goal.loop-i-preserved-then-is_close
loop-i-preserved-then-is_close c = (
  widens_further _ _ _ c.loop-i.invariant.0 c.join_next.ensures.kept,
  omega (arith, c.loop-i.invariant.1, c.join_next.ensures.fewer),
)
