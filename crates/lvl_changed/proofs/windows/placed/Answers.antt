use Rattle.lvl_changed.proofs.Widening.{joined_placed}
use Rattle.lvl_changed.proofs.windows.placed.Goals as goal

pub returns : goal.returns
returns c = λ s h.
    joined_placed c.args.map.now c.args.window.now c.spot.result c.spot-2.result c.joined.result c.low_corner.result
    c.high_corner.result c.in_ok-low.low c.in_ok-high.high c.low_corner.ensures c.high_corner.ensures
    c.in_ok-low.ensures.1 c.in_ok-high.ensures.1 c.spot.ensures c.spot-2.ensures c.joined.ensures s h
