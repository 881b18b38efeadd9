use Rattle.std.proofs.Common.{append_assoc, rules}
use Rattle.std.proofs.lemmas.Result.{IfOk-equal}
use Rattle.lvl_report.proofs.why.push_step.Goals as goal

pub returns : goal.returns
returns c =
    IfOk-equal _ _ _ _ c.writeln.ensures.bytes
    (rw (
      c.in_ok-push_map.ensures,
      c.in_ok-push_of-2.ensures,
      c.in_ok-write-3.ensures.bytes,
      c.in_ok-push_name.ensures,
      c.in_ok-write-2.ensures.bytes,
      c.in_ok-push_of.ensures,
      c.in_ok-write.ensures.bytes,
    )
    (simp (append_assoc, c.deref.ensures.value) (search rules)))
