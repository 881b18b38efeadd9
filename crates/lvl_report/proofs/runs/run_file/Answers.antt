use Rattle.lvl_report.proofs.runs.run_file.Goals as goal

pub returns-in-Show-clause-run : goal.returns-in-Show-clause-run
returns-in-Show-clause-run g c = rw c.in-Show.is (record {
  answer = c.show_file-answer.result;
  allowed = c.show_file-answer.ensures;
  told = record {
    whole = c.tell_shown.ensures.whole;
    ends = c.tell_shown.ensures.ends;
    begun = c.tell_shown.ensures.begun;
  };
})

pub returns-in-Digest-clause-run : goal.returns-in-Digest-clause-run
returns-in-Digest-clause-run g c = rw c.in-Digest.is (record {
  answer = c.digest_file-answer.result;
  allowed = c.digest_file-answer.ensures;
  told = record {
    whole = c.tell_digest.ensures.whole;
    ends = c.tell_digest.ensures.ends;
    begun = c.tell_digest.ensures.begun;
  };
})

pub returns-in-Cells-clause-run : goal.returns-in-Cells-clause-run
returns-in-Cells-clause-run g c = rw c.in-Cells.is (record {
  answer = c.list_cells-answer.result;
  allowed = record { found = c.list_cells-answer.ensures.found _; read_only = c.list_cells-answer.ensures.side };
  told = record {
    whole = c.tell_list.ensures.whole;
    ends = c.tell_list.ensures.ends;
    begun = c.tell_list.ensures.begun;
  };
})
