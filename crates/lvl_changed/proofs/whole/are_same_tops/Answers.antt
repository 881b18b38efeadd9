use Rattle.std.proofs.Common.{◌≡◌, None, false, not, ap, sym, subst, ◌∙◌}
use Rattle.std.specs.Prelude.{is_some}
use Rattle.lvl_columns.specs.Windows.{IsShown}
use Rattle.lvl_changed.proofs.Missing.{none_is}
use Rattle.lvl_changed.proofs.Tops.{none_mapped}
use Rattle.lvl_changed.proofs.whole.are_same_tops.Goals as goal

pub returns : goal.returns
returns c = λ is_same but l s.
    let none : is_some c.in_ok-found.found ≡ false = c.is_none.ensures ∙ ap not is_same in
    let whole : c.args.pair.now.view.now.window ≡ None =
    none_mapped _ c.window.result c.args.pair.now.view.now.window c.window.ensures
    (sym c.is_some.ensures ∙ c.if-is_some.false) in
    none_is c.in_ok-found.found _ none (c.in_ok-found.ensures.same but) l s
    (subst (λ o. IsShown o s) (sym whole) tt)
