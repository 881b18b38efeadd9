use Rattle.lvl_profile.specs.Profiles.{strict}
use Rattle.lvl_report.specs.Hints.{IsOutcomeOf}
use Rattle.lvl_report.specs.Texts.{text_of}
use Rattle.lvl_report.specs.Writing.{ends_by, status_of}
use Rattle.lvl_report.specs.declared.outcome.Outcome.{Outcome}
use Rattle.lvl_report.proofs.Running.{run_failed, run_part}
use Rattle.lvl_report.proofs.runs.run_view.Goals as goal

pub returns-in_err-outcome-clause-run : goal.returns-in_err-outcome-clause-run
returns-in_err-outcome-clause-run g c =
    run_failed text_of (IsOutcomeOf strict) _ _ (ends_by status_of) c.from_residual.result
    c.in_err-outcome.field-0.0 c.from_residual.ensures.1 c.in_err-outcome.ensures.run

pub returns-clause-run : goal.returns-clause-run
returns-clause-run g c =
    run_part text_of (IsOutcomeOf strict) _ _ (ends_by status_of) (λ (o : Outcome). o.status)
    (λ answer o end. end.status_is) c.in_ok-outcome.outcome c.in_ok-outcome.ensures.run
