use Rattle.std.proofs.Common.{[]}
use Rattle.lvl_job.proofs.Listed.{entries_told}
use Rattle.lvl_job.proofs.Telling.{says_nothing}
use Rattle.lvl_job.proofs.lists.check_entries.Goals as goal

pub returns-in-Ok-clause-told : goal.returns-in-Ok-clause-told
returns-in-Ok-clause-told g c =
    entries_told g.F.Files.opens _ _ _ _ _ _ _ _ c.in-Ok.tally _ _ c.say_summary.result c.in-Ok.ensures.checking.checked
    c.say_summary.ensures

pub returns-in-Err-clause-told : goal.returns-in-Err-clause-told
returns-in-Err-clause-told g c = record {
  said = [];
  checked = tt;
  fault = c.in-Err.ensures.checking.fault;
  told = says_nothing _;
}
