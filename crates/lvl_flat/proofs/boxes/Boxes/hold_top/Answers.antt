use Rattle.std.proofs.Common.{◌≡◌, ℕ, List, Some, slice_get, sym, ap, subst, ◌∙◌}
use Rattle.std.specs.Prelude.{IfSome}
use Rattle.lvl_cells.specs.Cells.{PlainCell, Rings}
use Rattle.lvl_flat.specs.Flattened.{AllInRange}
use Rattle.lvl_flat.proofs.Holding.{box_in_range}
use Rattle.lvl_flat.proofs.boxes.Boxes.hold_top.Goals as goal

pub returns-in-Some : goal.returns-in-Some
returns-in-Some c = λ h.
    let cells : List (PlainCell Rings) = c.args.checked.now.cells in
    let top : ℕ = c.top.result in
    let settled = c.top.ensures.checked.settled in
    let cell_at : slice_get cells top ≡ Some settled.cell = ap (slice_get cells) c.top.ensures.value ∙ settled.is in
    let both = c.requires top c.in-Some.field-0 settled.cell c.in-Some.ensures cell_at in
    subst (λ o. IfSome o (AllInRange cells)) (sym settled.is)
    (box_in_range cells c.in-Some.field-0 settled.cell both.0 both.1)
