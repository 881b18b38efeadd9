use Rattle.std.proofs.Common.{sym, subst}
use Rattle.lvl_grid.specs.declared.point.Window.{Window}
use Rattle.lvl_grid.specs.Clip.{IsInWindow}
use Rattle.lvl_changed.specs.inside.Shapes.{HasMoved}
use Rattle.lvl_changed.proofs.Leaving.{ring_moved}
use Rattle.lvl_changed.proofs.shapes.extent_of.Goals as goal

pub returns : goal.returns
returns c =
    subst (λ (w : Window). HasMoved c.args.ring.now c.args.reach.0 c.args.reach.1 (IsInWindow w)) (sym c.between.ensures)
    (ring_moved c.args.ring.now c.in_ok-least.least c.in_ok-least.greatest c.args.reach.0 c.args.reach.1 c.in_ok-low.low
    c.in_ok-high.high c.in_ok-least.ensures c.in_ok-low.ensures.1 c.in_ok-high.ensures.1)
