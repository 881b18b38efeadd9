use Rattle.std.proofs.Common.{rules, sym, subst, arith}
use Rattle.std.proofs.lemmas.Str.Pattern.{strip_prefix_char}
use Rattle.lvl_view.specs.Texts.{IsCoordinate, IsOnly}
use Rattle.lvl_view.proofs.Numbers.{sign_off, no_coordinate, coordinate_read}
use Rattle.lvl_view.proofs.number.coordinate_of.Goals as goal

pub returns-then-not-is_digits : goal.returns-then-not-is_digits
returns-then-not-is_digits c =
    let off =
    sign_off c.args.text c.strip_prefix.result c.unwrap_or-digits.result c.unwrap_or-digits.ensures
    (strip_prefix_char 45 c.args.text.now c.strip_prefix.result c.strip_prefix.ensures.cases (omega arith)) in
    no_coordinate c.args.text.now c.unwrap_or-digits.result.now off (search (rules, c.is_digits.ensures))

pub returns : goal.returns
returns c =
    let off =
    sign_off c.args.text c.strip_prefix.result c.unwrap_or-digits.result c.unwrap_or-digits.ensures
    (strip_prefix_char 45 c.args.text.now c.strip_prefix.result c.strip_prefix.ensures.cases (omega arith)) in
    subst (IsOnly (IsCoordinate c.args.text.now)) (sym c.ok.ensures.value) (coordinate_read c.args.text.now
    c.unwrap_or-digits.result.now c.parse.result off (c.is_digits.ensures.0 (search rules)) c.parse.ensures.value.0)
