use Rattle.std.proofs.lemmas.Result.{IfOk-weaker}
use Rattle.lvl_simplify.proofs.simplify.simplified.Goals as goal

pub returns : goal.returns
returns c =
    IfOk-weaker c.joined.result _ _
    (λ list reported s. (
      λ a. (c.in_ok-shorter.ensures s).0 ((c.in_ok-stacked.ensures s).0 ((reported s).0 a)),
      λ a. (reported s).1 ((c.in_ok-stacked.ensures s).1 ((c.in_ok-shorter.ensures s).1 a)),
    ))
    c.joined.ensures
