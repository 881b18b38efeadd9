use Rattle.std.proofs.Common.{append_assoc, rules}
use Rattle.std.proofs.lemmas.Result.{IfOk-equal}
use Rattle.lvl_report.proofs.why.push_box.Goals as goal

pub returns : goal.returns
returns c = IfOk-equal _ _ _ _ c.write.ensures.bytes (simp (append_assoc) (search rules))
