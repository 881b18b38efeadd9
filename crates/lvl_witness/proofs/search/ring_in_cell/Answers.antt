use Rattle.std.proofs.Common.{◌≡◌, slice_get, Some, ap, subst}
use Rattle.lvl_cells.specs.Cells.{PlainCell, Rings}
use Rattle.lvl_cells.specs.Checks.{Settled}
use Rattle.lvl_witness.specs.inside.Rings.{ShapesCover}
use Rattle.lvl_witness.proofs.Witnessing.{no_ring, none_of}
use Rattle.lvl_witness.proofs.search.ring_in_cell.Goals as goal

pub returns-clause-none : goal.returns-clause-none
returns-clause-none c =
    let s : Settled = c.args.fitted.now in
    let cell : PlainCell Rings = c.cell.result.now in
    let at : slice_get s.cells c.args.cell ≡ Some cell =
    subst (λ (x : Settled). slice_get x.cells c.args.cell ≡ Some cell) c.checked.ensures.library c.cell.ensures in
    let shapes : c.behind-checked.inside.shapes ≡ cell.shapes =
    ap (λ (b : PlainCell Rings). b.shapes) c.behind-checked.view_is in
    none_of c.find_ring.result c.find_ring.ensures.none
    (λ none. no_ring s.cells c.args.cell c.args.map.now c.args.layers.now c.args.square cell at
    (subst (λ hs. ¬ ShapesCover c.args.map.now c.args.layers.now c.args.square hs) shapes none))
