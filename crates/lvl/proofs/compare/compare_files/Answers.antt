use Rattle.std.proofs.Common.{refl}
use Rattle.std.proofs.lemmas.Result.{err_from_is_err_and}
use Rattle.lvl.specs.Questions.{asked}
use Rattle.lvl.proofs.Answering.{compared, first_unread, may_not, refused, second_unread, uncompared}
use Rattle.lvl.proofs.compare.compare_files.Goals as goal

pub returns-in_err-ours-clause-answer : goal.returns-in_err-ours-clause-answer
returns-in_err-ours-clause-answer g c =
    let p = err_from_is_err_and c.from_residual.result c.from_residual.ensures.1 in
    rw (p.1, p.2) (first_unread (asked c.args.question.now) _ _ c.in_err-ours.field-0.0
    (c.in_err-ours.ensures.refused _) c.in_err-ours.ensures.own (refl, refl))

pub returns-in_err-theirs-clause-answer : goal.returns-in_err-theirs-clause-answer
returns-in_err-theirs-clause-answer g c =
    let p = err_from_is_err_and c.from_residual-in_err-theirs.result c.from_residual-in_err-theirs.ensures.1 in
    rw (p.1, p.2) (second_unread (asked c.args.question.now) _ _ c.in_ok-ours.ours c.in_ok-ours.first
    (c.in_ok-ours.ensures.refused _) c.in_ok-ours.ensures.read c.in_err-theirs.field-0.0
    (c.in_err-theirs.ensures.refused _) c.in_err-theirs.ensures.own)

pub returns-then-not-may_compare-clause-answer : goal.returns-then-not-may_compare-clause-answer
returns-then-not-may_compare-clause-answer g c =
    uncompared (asked c.args.question.now) _ _ c.in_ok-ours.ours c.in_ok-ours.first
    (c.in_ok-ours.ensures.refused _) c.in_ok-ours.ensures.read c.in_ok-theirs.theirs c.in_ok-theirs.second
    (c.in_ok-theirs.ensures.refused _) c.in_ok-theirs.ensures.read
    (may_not c.args.question.now.units c.may_compare.result _ _ c.may_compare.ensures.unasked
    c.may_compare.ensures.differ c.if-not-may_compare.true)

pub returns-in_err-judged-clause-answer : goal.returns-in_err-judged-clause-answer
returns-in_err-judged-clause-answer g c =
    let p = err_from_is_err_and c.from_residual-in_err-judged.result c.from_residual-in_err-judged.ensures.1 in
    rw (p.1, p.2) (refused (asked c.args.question.now) _ _ c.in_ok-ours.ours c.in_ok-ours.first
    (c.in_ok-ours.ensures.refused _) c.in_ok-ours.ensures.read c.in_ok-theirs.theirs c.in_ok-theirs.second
    (c.in_ok-theirs.ensures.refused _) c.in_ok-theirs.ensures.read
    (λ units. c.may_compare.ensures.agree units c.if-not-may_compare.false) c.in_err-judged.field-0.0
    c.in_err-judged.ensures.refused)

pub returns-clause-answer : goal.returns-clause-answer
returns-clause-answer g c =
    compared (asked c.args.question.now) _ _ c.in_ok-ours.ours c.in_ok-ours.first
    (c.in_ok-ours.ensures.refused _) c.in_ok-ours.ensures.read c.in_ok-theirs.theirs c.in_ok-theirs.second
    (c.in_ok-theirs.ensures.refused _) c.in_ok-theirs.ensures.read
    (λ units. c.may_compare.ensures.agree units c.if-not-may_compare.false) c.in_ok-judged.judged
    c.in_ok-judged.ensures.judged
