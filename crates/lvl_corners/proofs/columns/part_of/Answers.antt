use Rattle.std.proofs.lemmas.Result.{IfOk-weaker}
use Rattle.lvl_corners.proofs.columns.part_of.Goals as goal

pub returns : goal.returns
returns c =
    IfOk-weaker c.simplified.result _ _
    (λ rings same s. (
      λ a. (c.in_ok-clipped.ensures s).0 ((same s).0 a),
      λ b. (same s).1 ((c.in_ok-clipped.ensures s).1 b),
    )) c.simplified.ensures
