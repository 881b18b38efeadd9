use Rattle.std.proofs.Common.{w64, FitsSigned, ◌↔◌}
use Rattle.std.proofs.lemmas.Int.{to_z-of_z}
use Rattle.lvl_columns.proofs.halves.split.Goals as goal

either_way : {A B C : Type 0} → (A ↔ B) → (B ↔ C) → A ↔ C
either_way first second = (λ a. second.0 (first.0 a), λ c. first.1 (second.1 c))

pub returns-clause-left : goal.returns-clause-left
returns-clause-left c =
    let fits : FitsSigned w64 c.args.at = c.ranges.at in
    λ s. either_way (c.in_ok-left-2.ensures s) (rw (to_z-of_z w64 _ fits) at (c.in_ok-left.ensures.left s))

pub returns-clause-right : goal.returns-clause-right
returns-clause-right c =
    let fits : FitsSigned w64 c.args.at = c.ranges.at in
    λ s. either_way (c.in_ok-right.ensures s) (rw (to_z-of_z w64 _ fits) at (c.in_ok-left.ensures.right s))
