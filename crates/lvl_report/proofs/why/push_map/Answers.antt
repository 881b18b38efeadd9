use Rattle.std.proofs.Common.{append_assoc, rules}
use Rattle.std.proofs.lemmas.Result.{IfOk-equal}
use Rattle.lvl_report.proofs.why.push_map.Goals as goal

pub returns : goal.returns
returns c =
    IfOk-equal _ _ _ _ c.write-2.ensures.bytes
    (rw c.in_ok-write.ensures.bytes (simp (append_assoc, c.degrees-turn.ensures, c.flipped-flip.ensures) (search rules)))
