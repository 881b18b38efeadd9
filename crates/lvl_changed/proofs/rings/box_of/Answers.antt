use Rattle.std.proofs.Common.{pos}
use Rattle.lvl_grid.specs.declared.point.Point.{Point}
use Rattle.lvl_changed.proofs.Boxing.{box_has, box_more}
use Rattle.lvl_changed.proofs.rings.box_of.Goals as goal

pub loop-point-preserved : goal.loop-point-preserved
loop-point-preserved c =
    let none : Point = record { x = pos 0; y = pos 0 } in
    box_more c.loop-point.held c.spot.result c.joined-held.result c.args.ring.now c.loop-point.point-index none
    c.loop-point-test.true c.spot.ensures c.joined-held.ensures c.loop-point.invariant

pub returns : goal.returns
returns c = λ s covers.
    box_has c.loop-point.held c.args.ring.now c.loop-point.point-index c.loop-point-test.false c.loop-point.invariant s
    covers
