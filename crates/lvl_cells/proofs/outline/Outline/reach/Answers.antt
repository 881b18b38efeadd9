use Rattle.std.proofs.Common.{◌≡◌, Bool, List, All, get_or, length, arith, sym, subst}
use Rattle.std.proofs.lemmas.Int.{ints}
use Rattle.lvl_grid.specs.declared.point.Point.{Point}
use Rattle.lvl_names.specs.Shifts.{IsBetween}
use Rattle.lvl_cells.specs.inside.Spans.{origin}
use Rattle.lvl_cells.proofs.Outlined.{between_corners, outline_one}
use Rattle.lvl_cells.proofs.outline.Outline.reach.Goals as goal

pub returns-then-self-eq1 : goal.returns-then-self-eq1
returns-then-self-eq1 c =
    let points : List Point = c.args.self.now.points.now in
    let along_y : Bool = c.args.self.now.along_y in
    let one : length points ≡ 1 = omega (arith, c.if-self-eq1.true) in
    let d : Point = get_or points 0 origin in
    subst (All (IsBetween c.corners.result.0 c.corners.result.1)) (sym (outline_one points along_y origin one))
    (between_corners c.corners.result.0 c.corners.result.1 d along_y
    (c.corners.ensures.wider origin (record {
      left = omega (arith, ints);
      right = omega (arith, ints);
      below = omega (arith, ints);
      above = omega (arith, ints);
    }))
    c.corners.ensures.there)
