use Rattle.std.proofs.Common.{◌<ℤ◌, w64, FitsSigned}
use Rattle.std.proofs.lemmas.Int.{to_z-of_z}
use Rattle.lvl_grid.proofs.Anyone.{Any-left, Any-right}
use Rattle.lvl_columns.proofs.cut.either_has_right.Goals as goal

pub returns-then-has_right : goal.returns-then-has_right
returns-then-has_right c =
    let fits : FitsSigned w64 c.args.at = c.ranges.at in
    λ t. Any-left (λ p. c.args.at <ℤ p.x) c.args.first.now c.args.second.now
    (rw (to_z-of_z w64 _ fits) at (c.has_right.ensures c.if-has_right.true))

pub returns-else-has_right : goal.returns-else-has_right
returns-else-has_right c =
    let fits : FitsSigned w64 c.args.at = c.ranges.at in
    λ t. Any-right (λ p. c.args.at <ℤ p.x) c.args.first.now c.args.second.now
    (rw (to_z-of_z w64 _ fits) at (c.has_right-else-has_right.ensures t))
