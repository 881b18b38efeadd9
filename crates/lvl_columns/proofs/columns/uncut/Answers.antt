use Rattle.std.proofs.lemmas.Result.{IfOk-weaker}
use Rattle.lvl_columns.proofs.Halving.{first_as}
use Rattle.lvl_columns.proofs.columns.uncut.Goals as goal

pub returns : goal.returns
returns c =
    IfOk-weaker c.swept-2.result _ _
    (λ found h. first_as (c.args.first.now, c.args.second.now) (c.in_ok-ours.ours, c.in_ok-theirs.theirs) found
    (λ s. (rw c.in_ok-copied.ensures at c.in_ok-ours.ensures s, rw c.in_ok-copied-2.ensures at c.in_ok-theirs.ensures s))
    h) c.swept-2.ensures
