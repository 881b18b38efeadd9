use Rattle.std.proofs.Common.{w64, FitsSigned}
use Rattle.std.proofs.lemmas.Int.{to_z-of_z}
use Rattle.lvl_columns.proofs.halves.halves_at.Goals as goal

pub returns-clause-left : goal.returns-clause-left
returns-clause-left c =
    let fits : FitsSigned w64 c.args.at = c.ranges.at in
    λ s. (
      rw (to_z-of_z w64 _ fits) at (c.in_ok-left_first.ensures.left s),
      rw (to_z-of_z w64 _ fits) at (c.in_ok-left_second.ensures.left s),
    )

pub returns-clause-right : goal.returns-clause-right
returns-clause-right c =
    let fits : FitsSigned w64 c.args.at = c.ranges.at in
    λ s. (
      rw (to_z-of_z w64 _ fits) at (c.in_ok-left_first.ensures.right s),
      rw (to_z-of_z w64 _ fits) at (c.in_ok-left_second.ensures.right s),
    )
