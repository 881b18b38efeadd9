use Rattle.std.proofs.Common.{sym, ◌∙◌}
use Rattle.lvl_flat.proofs.Replacing.{point_more}
use Rattle.lvl_flat.proofs.near.push_points.Goals as goal

pub loop-i-preserved : goal.loop-i-preserved
loop-i-preserved c =
    c.in_ok-push.ensures.items
    ∙ point_more c.args.ring.now c.args.points.now.items c.loop-i.points.items c.args.begin c.loop-i.i c.in-Some.point
    c.loop-i.auto.i (sym c.get.ensures ∙ c.in-Some.is) c.loop-i.invariant
