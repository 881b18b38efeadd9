use Rattle.std.proofs.Common.{arith, ◌∙◌}
use Rattle.std.proofs.lemmas.Result.{on_ok_weaker}
use Rattle.lvl_report.proofs.Decimals.{parts, next_digit}
use Rattle.lvl_report.proofs.steps.+push_decimals.Goals as goal

pub nonzero_div-rest : goal.nonzero_div-rest
nonzero_div-rest t c = (parts _ _ _ c.if-places-eq0.false c.requires.less c.pow-scale.ensures).0

pub overflow_cast-rest : goal.overflow_cast-rest
overflow_cast-rest t c =
    let less = (parts _ _ _ c.if-places-eq0.false c.requires.less c.pow-scale.ensures).1.0 in omega (arith, less)

pub overflow_add-rest : goal.overflow_add-rest
overflow_add-rest t c =
    let less = (parts _ _ _ c.if-places-eq0.false c.requires.less c.pow-scale.ensures).1.0 in omega (arith, less)

pub nonzero_rem-rest : goal.nonzero_rem-rest
nonzero_rem-rest t c = (parts _ _ _ c.if-places-eq0.false c.requires.less c.pow-scale.ensures).0

pub push_decimals-requires : goal.push_decimals-requires
push_decimals-requires t c =
    (omega (arith, c.if-places-eq0.false, c.decreases), (omega (arith, c.requires.few), (parts _ _ _ c.if-places-eq0.false c.requires.less c.pow-scale.ensures).1.1))

pub returns : goal.returns
returns t c = on_ok_weaker c.push_decimals.result
    (λ e. e ∙ next_digit _ _ _ c.args.text.now.items _ c.if-places-eq0.false c.if-rest-eq0.false c.pow-scale.ensures
    c.in_ok-push.ensures.items) c.push_decimals.ensures
