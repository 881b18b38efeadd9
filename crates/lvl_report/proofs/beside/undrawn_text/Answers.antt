use Rattle.std.proofs.Common.{append_assoc}
use Rattle.lvl_report.proofs.beside.undrawn_text.Goals as goal

pub returns : goal.returns
returns c = simp append_assoc (rw c.new-text.ensures.items at c.in_ok-writeln.ensures.bytes)
