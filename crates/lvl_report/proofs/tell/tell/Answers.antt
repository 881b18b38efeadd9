use Rattle.lvl_report.proofs.tell.tell.Goals as goal

pub returns-clause-ends : goal.returns-clause-ends
returns-clause-ends g c = record {
  status_is = c.status_of.ensures;
  hint_is = c.hint_in.ensures;
  line_is = c.in-Ok-line_beside.ensures;
}
