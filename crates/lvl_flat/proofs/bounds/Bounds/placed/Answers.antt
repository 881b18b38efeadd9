use Rattle.std.proofs.Common.{subst}
use Rattle.lvl_grid.specs.Turn.{image}
use Rattle.lvl_flat.specs.Boxes.{HoldsPoint}
use Rattle.lvl_flat.proofs.Corners.{placed_within}
use Rattle.lvl_flat.proofs.bounds.Bounds.placed.Goals as goal

pub returns-clause-held : goal.returns-clause-held
returns-clause-held c = λ p w.
    let low : HoldsPoint c.joined.result (image c.args.map.now c.args.self.low) =
    subst (HoldsPoint c.joined.result) c.in_ok-low.ensures.1
    (c.joined.ensures.first.holds c.in_ok-low.low c.around.ensures) in
    let high : HoldsPoint c.joined.result (image c.args.map.now c.args.self.high) =
    subst (HoldsPoint c.joined.result) c.in_ok-high.ensures.1
    (c.joined.ensures.second.holds c.in_ok-high.high c.around-2.ensures) in
    placed_within c.args.map.now c.args.self c.joined.result p low high w
