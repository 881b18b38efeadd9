use Rattle.std.proofs.Common.{List, take, subst, w64}
use Rattle.std.proofs.lemmas.Int.{to_z-of_z}
use Rattle.std.proofs.lemmas.List.{take_all, take_more}
use Rattle.lvl_simplify.specs.declared.redraw.Upright.{Upright}
use Rattle.lvl_simplify.proofs.Teeth.{Teeth, teeth_more, teeth_wind, no_upright}
use Rattle.lvl_simplify.proofs.redraw.drawn.Goals as goal

pub loop-upright-preserved : goal.loop-upright-preserved
loop-upright-preserved c =
    let l = to_z-of_z w64 c.args.left c.ranges.left in
    let us : List Upright = c.args.uprights.now in
    let i = c.loop-upright.upright-index in
    rw l
    (teeth_more c.args.left (take i us) _ _ c.loop-upright.points.items c.push_tooth.new.points.items
    (take_more us i no_upright c.loop-upright-test.true) (rw l at c.in_ok-push_tooth.ensures)
    (rw l at c.loop-upright.invariant))

pub returns : goal.returns
returns c = λ s le.
    let us : List Upright = c.args.uprights.now in
    teeth_wind s c.args.left us c.loop-upright.points.items le
    (subst (λ (vs : List Upright). Teeth c.args.left vs c.loop-upright.points.items)
    (take_all c.loop-upright.upright-index us c.loop-upright-test.false)
    (rw (to_z-of_z w64 c.args.left c.ranges.left) at c.loop-upright.invariant))
