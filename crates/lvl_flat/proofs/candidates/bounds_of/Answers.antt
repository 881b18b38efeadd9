use Rattle.std.proofs.Common.{◌≡◌, List, Some, slice_get, sym, ap, subst, ◌∙◌}
use Rattle.std.proofs.lemmas.Option.{get_or_from_slice_get}
use Rattle.lvl_grid.specs.Winding.{SomeCovers}
use Rattle.lvl_cells.specs.Cells.{PlainCell, PlainShape, Rings, shape_at}
use Rattle.lvl_cells.specs.Checks.{Settled}
use Rattle.lvl_cells.specs.Coverage.{ShapeCovers}
use Rattle.lvl_flat.specs.declared.bounds.Bounds.{Bounds}
use Rattle.lvl_flat.specs.inside.Bounds.{HoldsOwn}
use Rattle.lvl_flat.specs.inside.Parts.{HasParts}
use Rattle.lvl_flat.proofs.Choosing.{if_some}
use Rattle.lvl_flat.proofs.Covering.{some_is}
use Rattle.lvl_flat.proofs.Outside.{shape_square}
use Rattle.lvl_flat.proofs.candidates.bounds_of.Goals as goal

pub returns-in-Shape : goal.returns-in-Shape
returns-in-Shape c =
    let s : Settled = c.args.checked.now in
    let cell : PlainCell Rings = c.cell.result.now in
    let shapes : List (PlainShape Rings) = c.behind-checked.inside.shapes in
    let at : slice_get s.cells s.top ≡ Some cell = ap (slice_get s.cells) (sym c.top.ensures.value) ∙ c.cell.ensures in
    let same : shapes ≡ cell.shapes = ap (λ (b : PlainCell Rings). b.shapes) c.behind-checked.view_is in
    if_some (λ (b : Bounds). HoldsOwn b (shape_at shapes c.args.index)) (HasParts s c.args.part c.args.index)
    c.bounds_of_shape.result
    (λ b held. subst (λ part. HasParts s part c.args.index b) (sym c.in-Shape.is)
    (λ top there layer q covers.
    let both : Some top ≡ Some cell = sym there ∙ at in
    let one : top ≡ cell = cc in
    let found = some_is (ShapeCovers SomeCovers layer q) (slice_get top.shapes c.args.index) covers in
    let mine : slice_get shapes c.args.index ≡ Some found.0 =
    subst (λ hs. slice_get hs c.args.index ≡ Some found.0)
    (ap (λ (b : PlainCell Rings). b.shapes) one ∙ sym same) found.1 in
    let is : shape_at shapes c.args.index ≡ found.0 =
    get_or_from_slice_get shapes c.args.index found.0 _ mine in
    shape_square layer b found.0 q (subst (HoldsOwn b) is held) found.2)) c.bounds_of_shape.ensures
