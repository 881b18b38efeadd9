use Rattle.std.proofs.Common.{◌<ℤ◌, w64, FitsSigned}
use Rattle.std.proofs.lemmas.Int.{to_z-of_z}
use Rattle.lvl_grid.proofs.Anyone.{Any-left, Any-right}
use Rattle.lvl_columns.proofs.cut.either_has_left.Goals as goal

pub returns-then-has_left : goal.returns-then-has_left
returns-then-has_left c =
    let fits : FitsSigned w64 c.args.at = c.ranges.at in
    λ t. Any-left (λ p. p.x <ℤ c.args.at) c.args.first.now c.args.second.now
    (rw (to_z-of_z w64 _ fits) at (c.has_left.ensures c.if-has_left.true))

pub returns-else-has_left : goal.returns-else-has_left
returns-else-has_left c =
    let fits : FitsSigned w64 c.args.at = c.ranges.at in
    λ t. Any-right (λ p. p.x <ℤ c.args.at) c.args.first.now c.args.second.now
    (rw (to_z-of_z w64 _ fits) at (c.has_left-else-has_left.ensures t))
