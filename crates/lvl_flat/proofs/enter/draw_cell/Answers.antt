use Rattle.std.proofs.Common.{◌≡◌, length, slice_get, Some, Err, ap, subst, ◌∙◌, refl}
use Rattle.std.proofs.lemmas.Option.{slice_get_read}
use Rattle.lvl_cells.specs.Cells.{PlainCell, Rings}
use Rattle.lvl_flat.specs.inside.Drawn.{AreDrawn}
use Rattle.lvl_flat.specs.Flattened.{FitShapes, ReportsName}
use Rattle.lvl_refusal.specs.Refused.{Says}
use Rattle.lvl_refusal.proofs.Saying.{Says-map}
use Rattle.lvl_flat.proofs.Reporting.{reports_entered}
use Rattle.lvl_flat.proofs.enter.draw_cell.Goals as goal

pub returns-in-Ok-clause-drawn : goal.returns-in-Ok-clause-drawn
returns-in-Ok-clause-drawn c =
    let cell : PlainCell Rings = c.index-cells-index.result in
    record {
      cell = cell;
      there =
          slice_get_read c.args.cells.now (length c.args.cells.now) c.args.index cell refl c.requires.there
          c.index-cells-index.is;
      drawn =
          subst
          (λ hs. AreDrawn c.args.map.now c.args.scope.now hs c.args.sheets.now.items c.draw_shapes.new.sheets.items)
          (ap (λ (b : PlainCell Rings). b.shapes) c.cell.view_is) c.in-Ok.ensures.drawn;
    }

pub returns-in-Err-OutOfRange-clause-err : goal.returns-in-Err-OutOfRange-clause-err
returns-in-Err-OutOfRange-clause-err c =
    let cell : PlainCell Rings = c.index-cells-index.result in
    let at : slice_get c.args.cells.now c.args.index ≡ Some cell =
    slice_get_read c.args.cells.now (length c.args.cells.now) c.args.index cell refl c.requires.there
    c.index-cells-index.is in
    let shapes : c.cell.inside.shapes ≡ cell.shapes = ap (λ (b : PlainCell Rings). b.shapes) c.cell.view_is in
    let name : c.as_bytes.result.now ≡ cell.name =
    c.as_bytes.ensures ∙ ap (λ (b : PlainCell Rings). b.name) c.cell.view_is in
    let reports : Says c.out_of_range.result (ReportsName cell.name) =
    subst (λ n. Says c.out_of_range.result (ReportsName n)) name c.out_of_range.ensures in
    let out : FitShapes c.args.map.now cell.shapes → ⊥ =
    subst (λ hs. FitShapes c.args.map.now hs → ⊥) shapes
    (c.in-Err-OutOfRange.ensures.out (ap Err c.in-Err-OutOfRange.field-0-is)) in
    Says-map (ReportsName cell.name) _ c.out_of_range.result
    (reports_entered c.args.cells.now c.args.index c.args.map.now cell at out) reports
