use Rattle.std.proofs.Common.{append_assoc, rules}
use Rattle.std.proofs.lemmas.Result.{IfOk-equal}
use Rattle.lvl_report.proofs.digest.push_mask_line.Goals as goal

pub returns : goal.returns
returns c =
    IfOk-equal _ _ _ _ c.writeln.ensures.bytes
    (rw (c.in_ok-push_hex.ensures, c.in_ok-write.ensures.bytes) (simp (append_assoc) (search rules)))
