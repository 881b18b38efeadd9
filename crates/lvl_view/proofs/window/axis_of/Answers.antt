use Rattle.std.proofs.Common.{arith}
use Rattle.std.proofs.lemmas.Str.Pattern.{strip_prefix_char}
use Rattle.std.specs.Prelude.{None, Some}
use Rattle.lvl_view.specs.Texts.{IsSpanText, IsHeaded}
use Rattle.lvl_view.proofs.Cutting.{unheaded, headed}
use Rattle.lvl_view.proofs.window.axis_of.Goals as goal

pub returns-in_err-rest : goal.returns-in_err-rest
returns-in_err-rest c =
    unheaded c.args.axis (IsHeaded 61 IsSpanText) c.args.text.now c.from_residual.result c.from_residual.ensures
    (strip_prefix_char c.args.axis c.args.text.now None c.in_err-rest.ensures.cases c.requires)

pub returns-in_err-span : goal.returns-in_err-span
returns-in_err-span c =
    headed c.args.axis (IsHeaded 61 IsSpanText) c.args.text.now c.in_ok-rest.rest.now c.from_residual-in_err-span.result
    (strip_prefix_char c.args.axis c.args.text.now (Some c.in_ok-rest.rest) c.in_ok-rest.ensures.cases c.requires)
    (unheaded 61 IsSpanText c.in_ok-rest.rest.now c.from_residual-in_err-span.result c.from_residual-in_err-span.ensures
    (strip_prefix_char 61 c.in_ok-rest.rest.now None c.in_err-span.ensures.cases (omega arith)))

pub returns : goal.returns
returns c =
    headed c.args.axis (IsHeaded 61 IsSpanText) c.args.text.now c.in_ok-rest.rest.now c.span_of.result
    (strip_prefix_char c.args.axis c.args.text.now (Some c.in_ok-rest.rest) c.in_ok-rest.ensures.cases c.requires)
    (headed 61 IsSpanText c.in_ok-rest.rest.now c.in_ok-span.span.now c.span_of.result
    (strip_prefix_char 61 c.in_ok-rest.rest.now (Some c.in_ok-span.span) c.in_ok-span.ensures.cases (omega arith))
    c.span_of.ensures)
