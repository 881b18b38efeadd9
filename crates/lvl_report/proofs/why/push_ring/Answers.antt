use Rattle.std.proofs.Common.{append_assoc, rules}
use Rattle.std.proofs.lemmas.Result.{IfOk-equal}
use Rattle.lvl_report.proofs.why.push_ring.Goals as goal

pub returns : goal.returns
returns c =
    IfOk-equal _ _ _ _ c.write-4.ensures.bytes
    (rw (
      c.in_ok-push_of-3.ensures,
      c.in_ok-write-3.ensures.bytes,
      c.in_ok-push_of-2.ensures,
      c.in_ok-write-2.ensures.bytes,
      c.in_ok-push_of.ensures,
      c.in_ok-write.ensures.bytes,
    )
    (simp (append_assoc) (search rules)))
