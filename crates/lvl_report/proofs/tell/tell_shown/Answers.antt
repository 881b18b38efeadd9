use Rattle.lvl_report.proofs.tell.tell_shown.Goals as goal

pub returns-clause-ends : goal.returns-clause-ends
returns-clause-ends g c = record {
  status_is = c.shown_status.ensures;
  hint_is = c.hint_in.ensures;
  line_is = c.in-Ok-line_beside_one.ensures;
}
