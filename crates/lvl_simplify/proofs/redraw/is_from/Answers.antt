use Rattle.std.proofs.Common.{All, arith, subst, take, w64}
use Rattle.std.proofs.lemmas.Int.{ints, to_z-of_z}
use Rattle.std.proofs.lemmas.List.{take_all}
use Rattle.std.proofs.lemmas.List.Elements.{All-more}
use Rattle.lvl_grid.proofs.Paths.{origin}
use Rattle.lvl_simplify.specs.Redraw.{NotLeftOf}
use Rattle.lvl_simplify.proofs.redraw.is_from.Goals as goal

pub loop-point-preserved : goal.loop-point-preserved
loop-point-preserved c =
    let l = to_z-of_z w64 c.args.left c.ranges.left in
    let so_far : All (NotLeftOf c.args.left) (take c.loop-point.point-index c.args.ring.now) =
    rw l at c.loop-point.invariant in
    rw l
    (All-more (NotLeftOf c.args.left) c.args.ring.now c.loop-point.point-index origin c.loop-point-test.true so_far
    (grind (arith, ints)))

pub returns : goal.returns
returns c = λ t.
    subst (All (NotLeftOf c.args.left))
    (take_all c.loop-point.point-index c.args.ring.now c.loop-point-test.false)
    (rw (to_z-of_z w64 c.args.left c.ranges.left) at c.loop-point.invariant)
