use Rattle.std.proofs.Common.{append_assoc, rules}
use Rattle.std.proofs.lemmas.Result.{IfOk-equal}
use Rattle.lvl_report.proofs.text.push_verdict.Goals as goal

pub returns-in-Differ : goal.returns-in-Differ
returns-in-Differ c =
    IfOk-equal _ _ _ _ c.write-in-Differ.ensures.bytes
    (rw c.in-Differ.is (simp (append_assoc, c.side_name-side.ensures) (search rules)))
