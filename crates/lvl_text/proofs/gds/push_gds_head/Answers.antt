use Rattle.std.proofs.Common.{append_assoc, rules}
use Rattle.std.proofs.lemmas.Result.{IfOk-equal}
use Rattle.lvl_text.proofs.gds.push_gds_head.Goals as goal

pub returns : goal.returns
returns c = IfOk-equal _ _ _ _ c.push_units.ensures (rw c.in_ok-write.ensures.bytes (search (rules, append_assoc)))
