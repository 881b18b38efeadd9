use Rattle.std.proofs.Common.{◌≡◌, List, Some, slice_get, sym, ap, subst, ◌∙◌}
use Rattle.std.specs.Prelude.{IfSome}
use Rattle.lvl_grid.specs.declared.point.Window.{Window}
use Rattle.lvl_grid.specs.Clip.{IsInWindow}
use Rattle.lvl_grid.specs.Winding.{SomeCovers}
use Rattle.lvl_cells.specs.Cells.{PlainCell, Rings}
use Rattle.lvl_cells.specs.Coverage.{CellCovers}
use Rattle.lvl_flat.specs.Flattened.{AllInRange}
use Rattle.lvl_flat.proofs.Covering.{some_is}
use Rattle.lvl_flat.proofs.Outside.{cell_square, square_window, grid_holds}
use Rattle.lvl_flat.proofs.boxes.Boxes.extent.Goals as goal

pub returns-in-Some : goal.returns-in-Some
returns-in-Some c = λ layer s covers.
    let cells : List (PlainCell Rings) = c.args.checked.now.cells in
    let top =
    some_is (λ t. CellCovers SomeCovers cells layer t s) (slice_get cells c.args.checked.now.top) covers in
    let at : slice_get cells c.top.result ≡ Some top.0 = ap (slice_get cells) c.top.ensures.value ∙ top.1 in
    let held = (c.requires.boxes c.top.result c.in-Some.bounds top.0 c.in-Some.ensures at).1 in
    subst (λ (w : Window). IsInWindow w s) (sym c.window.ensures)
    (square_window c.in-Some.bounds s (cell_square cells layer top.2.0 c.in-Some.bounds top.0 s held top.2.1))

pub returns-in-None : goal.returns-in-None
returns-in-None c = λ layer s covers.
    let cells : List (PlainCell Rings) = c.args.checked.now.cells in
    let top =
    some_is (λ t. CellCovers SomeCovers cells layer t s) (slice_get cells c.args.checked.now.top) covers in
    let range : AllInRange cells top.0 = subst (λ o. IfSome o (AllInRange cells)) top.1 c.requires.in_range in
    let held = grid_holds cells top.0 c.grid.result c.grid.ensures range in
    subst (λ (w : Window). IsInWindow w s) (sym c.window-in-None.ensures)
    (square_window c.grid.result s (cell_square cells layer top.2.0 c.grid.result top.0 s held top.2.1))
