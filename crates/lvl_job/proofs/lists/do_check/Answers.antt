use Rattle.std.proofs.Common.{[]}
use Rattle.lvl_job.proofs.Telling.{silent_so_far}
use Rattle.lvl_job.proofs.lists.do_check.Goals as goal

pub returns-clause-done : goal.returns-clause-done
returns-clause-done g c =
    let t = c.check_under-ended.ensures.told in
    record {
      said = t.said;
      checked = t.checked;
      fault = t.fault;
      all_said = c.say_end.ensures t.said _ _ (t.told [] _ _ (silent_so_far _ _));
    }
