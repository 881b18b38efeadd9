use Rattle.std.proofs.Common.{◌≡◌, length}
use Rattle.lvl_report.specs.Writing.{AppendsBeginning}
use Rattle.lvl_report.proofs.output.write_all.Given as goal

-- a beginning of the text was written, and no write failed
abbrev pub invariant-loop-rest : goal.invariant-loop-rest
invariant-loop-rest g l = record {
  begun : AppendsBeginning (g.W.Write.contents l.fn.out) (g.W.Write.contents l.out) l.fn.text;
  left : begun.rest ≡ l.rest;
  errors : g.W.Write.write_errors l.out ≡ g.W.Write.write_errors l.fn.out;
  same : g.W.Write.lent l.out ≡ g.W.Write.lent l.fn.out;
}

abbrev pub decreases-loop-rest : goal.decreases-loop-rest
decreases-loop-rest g l = length l.rest
