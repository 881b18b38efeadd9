use Rattle.lvl_flat.proofs.Replacing.{near_more}
use Rattle.lvl_flat.proofs.near.near_points.Goals as goal

pub loop-k-preserved : goal.loop-k-preserved
loop-k-preserved c =
    near_more c.args.map.now c.args.shift c.args.window.now c.args.ring.now c.loop-k.points.items
    c.push_run.new.points.items c.loop-k.k c.in_ok-k.k c.in_ok-k.ensures.later c.loop-k.invariant
    c.in_ok-k.ensures.added
