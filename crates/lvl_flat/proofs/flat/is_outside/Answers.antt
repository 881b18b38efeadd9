use Rattle.std.proofs.Common.{◌≡◌, ◌<◌, ◌-◌, List, length, refl, ap, subst, arith}
use Rattle.std.proofs.lemmas.Option.{slice_get_read}
use Rattle.lvl_names.specs.declared.layer.Layer.{Layer}
use Rattle.lvl_names.specs.Layers.{ComesBefore}
use Rattle.lvl_flat.specs.Sheet.{PlainSheet}
use Rattle.lvl_flat.proofs.Orders.{after_last, before_first}
use Rattle.lvl_flat.proofs.flat.is_outside.Goals as goal

pub returns-then-comes_before : goal.returns-then-comes_before
returns-then-comes_before c before =
    let sheets : List PlainSheet = c.args.sheets.now in
    let first : PlainSheet = c.index-sheets-0.result in
    let some : 0 < length sheets = grind (arith, c.is_empty.ensures, c.if-is_empty.false) in
    let layer : c.first.inside.layer ≡ first.layer = ap (λ (s : PlainSheet). s.layer) c.first.view_is in
    before_first sheets c.args.layer first c.requires
    (slice_get_read sheets (length sheets) 0 first refl some c.index-sheets-0.is)
    (subst (λ (x : Layer). ComesBefore c.args.layer x) layer (c.comes_before.ensures.0 before))

pub returns-else-comes_before : goal.returns-else-comes_before
returns-else-comes_before c after =
    let sheets : List PlainSheet = c.args.sheets.now in
    let last : PlainSheet = c.index-sheets-sheets.result in
    let some : 0 < length sheets = grind (arith, c.is_empty.ensures, c.if-is_empty.false) in
    let layer : c.last.inside.layer ≡ last.layer = ap (λ (s : PlainSheet). s.layer) c.last.view_is in
    after_last sheets c.args.layer (length sheets - 1) last c.requires
    (slice_get_read sheets (length sheets) (length sheets - 1) last refl (omega (arith, some)) c.index-sheets-sheets.is)
    (omega (arith, some))
    (subst (λ (x : Layer). ComesBefore x c.args.layer) layer (c.comes_before-else-comes_before.ensures.0 after))
