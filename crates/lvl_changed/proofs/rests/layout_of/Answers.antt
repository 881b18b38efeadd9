use Rattle.std.proofs.Common.{◌≡◌, ◌↔◌, ◌++◌, ◌∷◌, [], List, Some, slice_get, sym, ap, ◌∙◌, subst}
use Rattle.lvl_grid.specs.declared.point.Square.{Square}
use Rattle.lvl_names.specs.declared.layer.Layer.{Layer}
use Rattle.lvl_cells.specs.Cells.{PlainCell, PlainShape, Rings}
use Rattle.lvl_cells.specs.Checks.{Settled}
use Rattle.lvl_flat.specs.Flattened.{TopCovers}
use Rattle.lvl_changed.specs.inside.Shapes.{ShapesCover}
use Rattle.lvl_changed.proofs.Resting.{flat_covers, top_of_one}
use Rattle.lvl_changed.proofs.rests.layout_of.Goals as goal

pub returns-in-Ok-new : goal.returns-in-Ok-new
returns-in-Ok-new c =
    let cell : PlainCell Rings = c.cell_of.result in
    let checked : Settled = c.in-Ok.checked in
    let cells : checked.cells ≡ cell ∷ [] =
    c.in-Ok.ensures.same
    ∙ (c.push_reserved.ensures.items ∙ ap (λ (xs : List (PlainCell Rings)). xs ++ cell ∷ []) c.in_ok-cells.ensures.items)
    in
    let top : slice_get checked.cells checked.top ≡ Some cell =
    top_of_one checked cell c.in-Ok.ensures.sound.cell cells c.in-Ok.ensures.sound.is in
    let alone : cell.references ≡ [] = ap (λ (b : PlainCell Rings). b.references) c.cell_of.ensures in
    let shapes : cell.shapes ≡ c.args.shapes = ap (λ (b : PlainCell Rings). b.shapes) c.cell_of.ensures in
    let covers : (l : Layer) (s : Square) → TopCovers checked l s ↔ ShapesCover c.args.shapes l s =
    subst (λ (hs : List (PlainShape Rings)). (l : Layer) (s : Square) → TopCovers checked l s ↔ ShapesCover hs l s)
    shapes (flat_covers checked cell top alone) in
    subst (λ (x : Settled). (l : Layer) (s : Square) → TopCovers x l s ↔ ShapesCover c.args.shapes l s)
    (sym c.in-Ok-new.ensures.ok) covers
