use Rattle.std.proofs.Common.{append_assoc, rules}
use Rattle.std.proofs.lemmas.Result.{IfOk-equal}
use Rattle.lvl_text.proofs.oasis.push_oasis_head.Goals as goal

pub returns : goal.returns
returns c =
    IfOk-equal _ _ _ _ c.push_signature.ensures
    (rw (c.in_ok-write-2.ensures.bytes, c.in_ok-push_real.ensures, c.in_ok-write.ensures.bytes)
    (search (rules, append_assoc)))
