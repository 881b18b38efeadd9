use Rattle.std.proofs.Common.{refl, inl, inr}
use Rattle.lvl_report.proofs.Running.{keeps_same}
use Rattle.lvl_job.proofs.line.do_line.Goals as goal

pub returns-in-Ok : goal.returns-in-Ok
returns-in-Ok g c = inl (record {
  job = c.in-Ok.job;
  asked = c.in-Ok.ensures.job;
  ended = c.do_job-ended.result;
  done = c.do_job-ended.ensures.done;
  status = c.code_of.ensures;
})

pub returns-in-Err : goal.returns-in-Err
returns-in-Err g c = inr (record {
  fault = c.in-Err.fault;
  refused = c.in-Err.ensures.refused;
  unopened = refl;
  unwritten = keeps_same _;
  said = c.refuse.ensures;
  status = refl;
})
