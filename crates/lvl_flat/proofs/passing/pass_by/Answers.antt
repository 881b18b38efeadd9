use Rattle.std.proofs.Common.{◌≡◌, ◌<◌, List, length, slice_get, Some, get_or, sym, ap, subst, arith, refl}
use Rattle.std.proofs.lemmas.Option.{slice_get_read, slice_get-get_or}
use Rattle.lvl_grid.specs.declared.point.Point.{Point}
use Rattle.lvl_grid.proofs.Paths.{origin}
use Rattle.lvl_cells.specs.Cells.{PlainCell, PlainReference, Rings}
use Rattle.lvl_flat.proofs.Runs.{missed_at}
use Rattle.lvl_flat.proofs.passing.pass_by.Goals as goal

pub returns : goal.returns
returns c = record {
  cell_is = refl;
  map_is = refl;
  reference_is = refl;
  on = c.missed_from-place.ensures.on;
  missed = λ k from below.
      let cells : List (PlainCell Rings) = c.args.checked.now.cells in
      let cell : PlainCell Rings = c.index-cells-visit.result in
      let listed : slice_get c.cells.result.now c.args.visit.cell ≡ Some cell =
      slice_get_read c.cells.result.now (length c.cells.result.now) c.args.visit.cell cell refl
      (omega (arith, c.requires.cell, ap length c.cells.ensures.value)) c.index-cells-visit.is in
      let at : slice_get cells c.args.visit.cell ≡ Some cell =
      subst (λ cs. slice_get cs c.args.visit.cell ≡ Some cell) c.cells.ensures.value listed in
      let references : c.cell.inside.references ≡ cell.references =
      ap (λ (b : PlainCell Rings). b.references) c.cell.view_is in
      let r : PlainReference = c.reference-reference.result in
      let found : slice_get c.cell.inside.references c.args.visit.reference ≡ Some r = c.reference-reference.ensures in
      let there : slice_get cell.references c.args.visit.reference ≡ Some r =
      subst (λ rs. slice_get rs c.args.visit.reference ≡ Some r) references found in
      let shifts : c.in-Some.shifts.now ≡ r.shifts = c.in-Some.ensures.some in
      let inside : k < length r.shifts =
      omega (arith, below, c.missed_from-place.ensures.inside, ap length shifts) in
      let e : Point = get_or r.shifts k origin in
      let shift : slice_get r.shifts k ≡ Some e = slice_get-get_or r.shifts k origin inside in
      let seen : slice_get c.in-Some.shifts.now k ≡ Some e =
      subst (λ xs. slice_get xs k ≡ Some e) (sym shifts) shift in
      missed_at cells c.args.boxes.now c.args.window.now _ cell r c.in-Some-target.target k c.in-Some-get.bounds
      c.in-Some-placed_by.inner e c.requires.boxes at there c.in-Some-target.ensures.target c.in-Some-get.ensures
      c.in-Some-placed_by.ensures shift (c.missed_from-place.ensures.missed k e from below seen);
}
