use Rattle.std.proofs.Common.{append_assoc, rules}
use Rattle.std.proofs.lemmas.Result.{IfOk-equal}
use Rattle.lvl_report.proofs.list.push_cell.Goals as goal

pub returns : goal.returns
returns c =
    IfOk-equal _ _ _ _ c.writeln.ensures.bytes
    (rw (c.in_ok-push_name.ensures, c.in_ok-write.ensures.bytes)
    (simp (append_assoc, c.as_bytes.ensures, c.top_mark-mark.ensures) (search rules)))
