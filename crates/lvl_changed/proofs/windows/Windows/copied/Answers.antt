use Rattle.std.proofs.Common.{◌≡◌, List, inl, inr, sym, ◌∙◌, subst}
use Rattle.std.proofs.lemmas.Option.{IfSome_then}
use Rattle.lvl_grid.specs.declared.point.Window.{Window}
use Rattle.lvl_compare.specs.Parts.{SomeHas}
use Rattle.lvl_changed.proofs.windows.Windows.copied.Goals as goal

pub returns : goal.returns
returns c =
    let items : c.in_ok-from_slice.field-0.items ≡ c.args.self.now.list.items =
    c.in_ok-from_slice.ensures.items ∙ c.deref.ensures.value in
    IfSome_then c.into_list.result c.into_list.ensures
    (λ list all s h. all s (elim h [
      | inl any ↦ inl any
      | inr a ↦ inr (subst (λ (ws : List Window). SomeHas ws s) (sym items) a)
    ]))
