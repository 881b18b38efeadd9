use Rattle.std.proofs.Common.{rules, sym, subst}
use Rattle.lvl_view.specs.Texts.{IsNumber, IsOnly}
use Rattle.lvl_view.proofs.Numbers.{number_read}
use Rattle.lvl_view.proofs.number.number_of.Goals as goal

pub returns : goal.returns
returns c =
    subst (IsOnly (IsNumber c.args.text.now)) (sym c.ok.ensures.value)
    (number_read c.args.text.now c.parse.result (c.is_digits.ensures.0 (search rules)) c.parse.ensures.value.0)
