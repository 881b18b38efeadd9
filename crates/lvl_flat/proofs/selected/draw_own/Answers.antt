use Rattle.std.proofs.Common.{◌≡◌, Some, slice_get, sym, ap, subst, ◌∙◌}
use Rattle.lvl_cells.specs.Cells.{PlainCell, Rings}
use Rattle.lvl_cells.specs.Chains.{unmoved}
use Rattle.lvl_cells.specs.Checks.{Settled}
use Rattle.lvl_flat.specs.declared.scope.Scope.TheVariants.{Within}
use Rattle.lvl_flat.specs.inside.Drawn.{AreDrawnAt}
use Rattle.lvl_flat.proofs.Own.{own_drawn}
use Rattle.lvl_flat.proofs.selected.draw_own.Goals as goal

pub returns-in-Ok : goal.returns-in-Ok
returns-in-Ok c =
    let s : Settled = c.args.checked.now in
    let top : PlainCell Rings = c.cell.result.now in
    let at : slice_get s.cells s.top ≡ Some top = ap (slice_get s.cells) (sym c.top.ensures.value) ∙ c.cell.ensures in
    own_drawn s c.args.window.now top c.args.candidates.now.shapes c.args.sheets.now.items
    c.draw_listed.new.sheets.items at c.requires.in_range c.requires.candidates.shapes
    (subst (λ hs. AreDrawnAt unmoved (Within c.args.window.now) hs c.args.candidates.now.shapes
    c.args.sheets.now.items c.draw_listed.new.sheets.items)
    (ap (λ (b : PlainCell Rings). b.shapes) c.behind-checked.view_is) c.in-Ok.ensures)
