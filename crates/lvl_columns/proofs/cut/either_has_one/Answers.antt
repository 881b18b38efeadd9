use Rattle.std.proofs.Common.{◌≡◌, w64, FitsSigned}
use Rattle.std.proofs.lemmas.Int.{to_z-of_z}
use Rattle.lvl_grid.proofs.Anyone.{Any-left, Any-right}
use Rattle.lvl_columns.proofs.cut.either_has_one.Goals as goal

pub returns-then-has_one : goal.returns-then-has_one
returns-then-has_one c =
    let fits : FitsSigned w64 c.args.at = c.ranges.at in
    λ t. Any-left (λ p. p.x ≡ c.args.at) c.args.first.now c.args.second.now
    (rw (to_z-of_z w64 _ fits) at (c.has_one.ensures c.if-has_one.true))

pub returns-else-has_one : goal.returns-else-has_one
returns-else-has_one c =
    let fits : FitsSigned w64 c.args.at = c.ranges.at in
    λ t. Any-right (λ p. p.x ≡ c.args.at) c.args.first.now c.args.second.now
    (rw (to_z-of_z w64 _ fits) at (c.has_one-else-has_one.ensures t))
