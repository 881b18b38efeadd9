use Rattle.lvl_report.proofs.Running.{differ_unless}
use Rattle.lvl_report.proofs.runs.run_question.Goals as goal

pub tell-requires : goal.tell-requires
tell-requires g c =
    differ_unless c.args.question.now.units c.compare_files-answer.result c.compare_files-answer.ensures.answer.steps

pub returns-clause-run : goal.returns-clause-run
returns-clause-run g c = record {
  answer = c.compare_files-answer.result;
  allowed = c.compare_files-answer.ensures.answer;
  told = record {
    whole = c.tell.ensures.whole;
    ends = c.tell.ensures.ends;
    begun = c.tell.ensures.begun;
  };
}
