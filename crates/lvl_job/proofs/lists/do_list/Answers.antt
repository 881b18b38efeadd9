use Rattle.std.proofs.Common.{[]}
use Rattle.lvl_job.proofs.Telling.{silent_so_far}
use Rattle.lvl_job.proofs.lists.do_list.Goals as goal

pub returns-clause-done : goal.returns-clause-done
returns-clause-done g c =
    let t = c.list_under-ended.ensures.told in
    record {
      said = t.said;
      listed = t.listed;
      fault = t.fault;
      all_said = c.say_end.ensures t.said _ _ (t.told [] _ _ (silent_so_far _ _));
    }
