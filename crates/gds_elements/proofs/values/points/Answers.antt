use Rattle.std.proofs.Common.{◌≡◌, ◌+◌, ◌-◌, ◌/◌, length, arith, ap, length-drop}
use Rattle.gds_elements.proofs.Points.{points_more}
use Rattle.gds_elements.proofs.values.points.Goals as goal

pub loop-preserved : goal.loop-preserved
loop-preserved c =
    let n = length c.args.payload.now / 8 in
    let e : n - c.loop.counter ≡ n - (c.loop.counter + 1) + 1 = omega arith in record {
      room = grind arith;
      count = grind arith;
      enough = omega (arith, c.loop.invariant.enough, ap length c.split_at.ensures.back, length-drop 8 c.loop.rest.now);
      points = rw (c.push_reserved.ensures.items, c.point.ensures.value, c.split_at.ensures.front, c.split_at.ensures.back)
          (points_more _ _ _ _ _ e c.loop.invariant.points);
    }
