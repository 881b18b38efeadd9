use Rattle.std.proofs.Common.{w64, rules, FitsSigned}
use Rattle.std.proofs.lemmas.Int.{to_z-of_z}
use Rattle.lvl_region.proofs.Agreement.{marked_is}
use Rattle.lvl_region.proofs.grid.GridRegionRegion.covers.Goals as goal

pub returns : goal.returns
returns c =
    let fits_x : FitsSigned w64 c.args.square.x = search rules in
    let fits_y : FitsSigned w64 c.args.square.y = search rules in
    marked_is c.args.self.now.xs.items c.args.self.now.ys.items c.args.self.now.rows.items c.args.square _
    c.row_after-row.result.now _ _
    (rw (c.deref-2.ensures.value, to_z-of_z w64 c.args.square.y fits_y) at c.count_passed.ensures)
    (rw c.deref.ensures.value at c.row_after-row.ensures)
    (rw (c.deref-3.ensures.value, to_z-of_z w64 c.args.square.x fits_x) at c.count_passed-2.ensures)
    c.cell_after.ensures
