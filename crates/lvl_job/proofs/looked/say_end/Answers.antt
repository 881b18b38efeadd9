use Rattle.std.proofs.Common.{◌∙◌, sym}
use Rattle.lvl_job.proofs.Telling.{end_said}
use Rattle.lvl_job.proofs.looked.say_end.Goals as goal

pub returns-in-Ok : goal.returns-in-Ok
returns-in-Ok g c = λ front old before h.
    rw c.in-Ok.is (end_said _ front _ old _ before _ (sym c.is_err.ensures.value ∙ c.if-is_err.false) h c.say_listed.ensures)
