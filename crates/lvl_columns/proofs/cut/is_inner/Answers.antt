use Rattle.std.proofs.Common.{w64, FitsSigned}
use Rattle.std.proofs.lemmas.Int.{to_z-of_z}
use Rattle.lvl_columns.proofs.cut.is_inner.Goals as goal

pub returns : goal.returns
returns c =
    let fits : FitsSigned w64 c.args.at = c.ranges.at in
    λ t. record {
      left = rw (to_z-of_z w64 _ fits) at (c.either_has_left.ensures c.if-not-either_has_left.false);
      one = rw (to_z-of_z w64 _ fits) at (c.either_has_one.ensures c.if-not-either_has_one.false);
      right = rw (to_z-of_z w64 _ fits) at (c.either_has_right.ensures t);
    }
