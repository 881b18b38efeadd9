use Rattle.lvl_job.specs.inside.Steps.{Speaking}
use Rattle.lvl_job.proofs.Telling.{said_from_start}
use Rattle.lvl_job.proofs.looked.say_listed.Goals as goal

pub returns : goal.returns
returns g c =
    let said : Speaking = record {
      so_far = c.say_outcome.new.said;
      contents = g.E.Write.contents c.say_outcome.new.err;
      errors = g.E.Write.write_errors c.say_outcome.new.err;
    } in
    said_from_start _ _ _ said c.say_outcome.ensures
