use Rattle.std.proofs.Common.{◌≡◌, ap, refl, arith}
use Rattle.std.proofs.lemmas.Int.{ints}
use Rattle.lvl_grid.specs.declared.point.Point.{Point}
use Rattle.lvl_witness.specs.declared.wide.WidePoint.{WidePoint}
use Rattle.lvl_witness.proofs.areas.Area.has.Goals as goal

pub returns-then-is_between : goal.returns-then-is_between
returns-then-is_between c =
    let wide : WidePoint = c.from_point-x.result in
    let x : wide.x ≡ c.args.shift.x = ap (λ (p : Point). p.x) c.from_point-x.ensures.same in
    let y : wide.y ≡ c.args.shift.y = ap (λ (p : Point). p.y) c.from_point-x.ensures.same in
    let across = c.if-is_between.ensures.0 refl in (
      λ h.
          let along = c.is_between-then-is_between.ensures.0 h in
          record {
            left = omega (arith, ints, x, across.0);
            right = omega (arith, ints, x, across.1);
            below = omega (arith, ints, y, along.0);
            above = omega (arith, ints, y, along.1);
          },
      λ i.
          c.is_between-then-is_between.ensures.1
          (omega (arith, ints, y, i.below), omega (arith, ints, y, i.above)),
    )
