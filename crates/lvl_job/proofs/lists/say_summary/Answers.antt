use Rattle.std.proofs.Common.{◌∙◌, refl, sym}
use Rattle.lvl_job.proofs.Telling.{says_same}
use Rattle.lvl_job.proofs.lists.say_summary.Goals as goal

pub returns : goal.returns
returns g c = (refl, says_same _ _ _ _ (sym (c.deref.ensures.value ∙ c.in-Ok.ensures)) c.say_more.ensures)
