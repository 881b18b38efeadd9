use Rattle.lvl_report.specs.Texts.{text_of}
use Rattle.lvl_report.specs.Writing.{ends_by, status_of}
use Rattle.lvl_report.proofs.Running.{run_as}
use Rattle.lvl_report.proofs.runs.run.Goals as goal

pub returns-clause-run : goal.returns-clause-run
returns-clause-run g c =
    run_as text_of (ends_by status_of) _ _ c.run_view-2.result
    (λ answer allowed. (c.whole.result, c.whole.ensures, allowed)) c.run_view-2.ensures.run
