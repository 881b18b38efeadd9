use Rattle.std.proofs.Common.{◌≡◌, ◌<◌, ◌↔◌, Option, Some, length, slice_get, refl, ap, ◌∙◌, subst, arith}
use Rattle.std.proofs.lemmas.Option.{slice_get_read}
use Rattle.lvl_flat.specs.Flattened.{CoversAt}
use Rattle.lvl_changed.specs.declared.found.Found.{Found}
use Rattle.lvl_changed.specs.inside.Finding.{PartnerCovers}
use Rattle.lvl_changed.proofs.Finding.{some_weaker}
use Rattle.lvl_changed.proofs.cells.changes_in.Goals as goal

pub returns : goal.returns
returns c =
    let f : Found = c.in_ok-compared.field-0 in
    let low : c.args.cell < length c.args.known.items = omega (arith, c.requires, c.args.known.ok.0) in
    let some : Option Found = Some f in
    let at : slice_get c.args.known.items c.args.cell ≡ Some some =
    slice_get_read c.args.known.items (length c.args.known.items) c.args.cell some refl low
    c.in_ok-compared.ensures.value in
    let partner : f.partner ≡ Some c.args.partner = c.in_ok-compared-2.was ∙ ap Some c.if-branch-partner.false in
    some_weaker c.into_changes.result _ _
    (λ list has pairs ours theirs known l s out.
    subst (λ o. CoversAt ours c.args.cell l s ↔ PartnerCovers pairs theirs o l s) partner
    (known c.args.cell f at l s (λ h. out (has l s h)))) c.into_changes.ensures
