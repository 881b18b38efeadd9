use Rattle.std.proofs.Common.{subst, sym}
use Rattle.lvl.specs.Kept.{IsCheckedAs}
use Rattle.lvl.specs.Reasons.{IsKeptReason, IsReasonOf}
use Rattle.lvl.proofs.Viewing.{first_reported, if_asked, in_range_as, kept_verdict, second_reported}
use Rattle.lvl.proofs.compare.compare_checked.Goals as goal

pub returns-in_err-ours-clause-refused : goal.returns-in_err-ours-clause-refused
returns-in_err-ours-clause-refused c = λ a b first second.
    first_reported a b c.args.ours c.args.theirs first second c.in_err-ours.field-0.0 c.in_err-ours.ensures.refused
    c.from_residual.result c.from_residual.ensures

pub returns-in_err-theirs-clause-refused : goal.returns-in_err-theirs-clause-refused
returns-in_err-theirs-clause-refused c = λ a b first second.
    second_reported a b c.args.ours c.in_ok-ours.ours c.args.theirs first c.in_ok-ours.ensures.same
    c.in_ok-ours.ensures.in_range second c.in_err-theirs.field-0.0 c.in_err-theirs.ensures.refused
    c.from_residual-in_err-theirs.result c.from_residual-in_err-theirs.ensures

pub returns-in-Ok-clause-verdict : goal.returns-in-Ok-clause-verdict
returns-in-Ok-clause-verdict c = λ a b first second.
    kept_verdict c.args.view.now a b c.in_ok-ours.ours c.in_ok-theirs.theirs
    (in_range_as a c.args.ours c.in_ok-ours.ours first c.in_ok-ours.ensures.same c.in_ok-ours.ensures.in_range)
    (in_range_as b c.args.theirs c.in_ok-theirs.theirs second c.in_ok-theirs.ensures.same
    c.in_ok-theirs.ensures.in_range) c.in-Ok.found.0 c.in-Ok.ensures.verdict

pub returns-in-Ok-clause-reason : goal.returns-in-Ok-clause-reason
returns-in-Ok-clause-reason c = λ a b first second.
    if_asked c.args.explained
    (IsReasonOf c.args.view.now.pairs c.in_ok-ours.ours c.in_ok-theirs.theirs c.in-Ok.found.0)
    (IsKeptReason c.args.view.now a b c.in-Ok.found.0) c.in-Ok.found.1
    (λ why. record {
      ours = c.in_ok-ours.ours;
      theirs = c.in_ok-theirs.theirs;
      first = subst (IsCheckedAs a) (sym c.in_ok-ours.ensures.same) first;
      second = subst (IsCheckedAs b) (sym c.in_ok-theirs.ensures.same) second;
      reason = why;
    })
    c.in-Ok.ensures.reason
