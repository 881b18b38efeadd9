use Rattle.lvl.specs.Accepted.{Draws}
use Rattle.lvl.proofs.Digesting.{told_apart}
use Rattle.lvl.proofs.digest.digests_decide.Goals as goal

pub returns : goal.returns
returns c a b d e one other =
    told_apart (Draws one.cells one.top) (Draws other.cells other.top) d.mask e.mask one.digested.digest_is
    other.digested.digest_is
