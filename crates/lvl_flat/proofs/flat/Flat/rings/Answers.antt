use Rattle.std.proofs.Common.{◌≡◌, sym, ap, subst, ◌∙◌, get_or}
use Rattle.std.proofs.lemmas.Option.{get_or_from_slice_get}
use Rattle.lvl_flat.specs.Sheet.{PlainSheet}
use Rattle.lvl_flat.specs.Sheets.{AreSorted, rings_on}
use Rattle.lvl_flat.proofs.Orders.{rings_where, rings_nowhere}
use Rattle.lvl_flat.proofs.flat.Flat.rings.Goals as goal

pub returns-in-Some : goal.returns-in-Some
returns-in-Some c =
    let found = c.in-Some.ensures.found in
    let sheets : c.deref.result.now ≡ c.args.self.now = c.deref.ensures.value ∙ c.self.view_is in
    let sorted : AreSorted c.deref.result.now =
    subst AreSorted (sym c.deref.ensures.value) c.self.invariant.in_order.sorted in
    let sheet : c.index-sheet.result.now ≡ found.sheet =
    c.index-sheet.ensures
    ∙ (ap (λ xs. get_or xs c.in-Some.place c.index-sheet.result.now) (sym c.deref.ensures.value)
    ∙ get_or_from_slice_get c.deref.result.now c.in-Some.place found.sheet c.index-sheet.result.now found.there)
    in
    (ap (λ (s : PlainSheet). s.rings) (c.sheet.view_is ∙ sheet)
    ∙ (sym (rings_where c.deref.result.now c.args.layer c.in-Some.place found.sheet sorted found.there
    found.layer_is) ∙ ap (λ xs. rings_on c.args.layer xs) sheets))

pub returns-in-None : goal.returns-in-None
returns-in-None c =
    let sheets : c.deref.result.now ≡ c.args.self.now = c.deref.ensures.value ∙ c.self.view_is in
    c.self.invariant.none_are
    ∙ sym (ap (λ xs. rings_on c.args.layer xs) (sym sheets)
    ∙ rings_nowhere c.deref.result.now c.args.layer c.in-None.ensures.absent)
