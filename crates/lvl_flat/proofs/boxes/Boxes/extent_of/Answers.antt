use Rattle.std.proofs.Common.{List, slice_get, sym, subst}
use Rattle.lvl_grid.specs.declared.point.Window.{Window}
use Rattle.lvl_grid.specs.Clip.{IsInWindow}
use Rattle.lvl_grid.specs.Winding.{SomeCovers}
use Rattle.lvl_cells.specs.Cells.{PlainCell, Rings}
use Rattle.lvl_cells.specs.Coverage.{CellCovers}
use Rattle.lvl_flat.proofs.Covering.{some_is}
use Rattle.lvl_flat.proofs.Outside.{cell_square, square_window}
use Rattle.lvl_flat.proofs.boxes.Boxes.extent_of.Goals as goal

pub returns-in-Some : goal.returns-in-Some
returns-in-Some c = λ layer s covers.
    let cells : List (PlainCell Rings) = c.args.checked.now.cells in
    let at = some_is (λ t. CellCovers SomeCovers cells layer t s) (slice_get cells c.args.cell) covers in
    let held = (c.requires c.args.cell c.in-Some.bounds at.0 c.in-Some.ensures at.1).1 in
    subst (λ (w : Window). IsInWindow w s) (sym c.window.ensures)
    (square_window c.in-Some.bounds s (cell_square cells layer at.2.0 c.in-Some.bounds at.0 s held at.2.1))
