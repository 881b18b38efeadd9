use Rattle.std.proofs.Common.{◌↔◌, ◌∷◌, [], List, Any, map, subst, sym}
use Rattle.std.proofs.lemmas.Result.{err_from_is_err_and}
use Rattle.lvl_grid.specs.Winding.{SomeCovers}
use Rattle.lvl_cells.specs.Cells.{PlainCell, Rings}
use Rattle.lvl_cells.specs.Chains.{unmoved}
use Rattle.lvl_flat.specs.declared.scope.Scope.TheVariants.{Everything}
use Rattle.lvl_flat.specs.inside.Entering.{IsDrawn, IsEnterFault}
use Rattle.lvl_flat.specs.inside.Walking.{AllListed}
use Rattle.lvl_cells.specs.Coverage.{ShapeCovers}
use Rattle.lvl_flat.specs.Sheet.{PlainSheet}
use Rattle.lvl_flat.specs.Sheets.{rings_on}
use Rattle.lvl_flat.proofs.Drawing.{layer_of, sorted_alike}
use Rattle.lvl_flat.proofs.Ending.{own_covers, rings_on_empty}
use Rattle.lvl_flat.proofs.Reporting.{own_out}
use Rattle.lvl_refusal.specs.Refused.{Says}
use Rattle.lvl_refusal.proofs.Saying.{Says-map}
use Rattle.lvl_flat.proofs.shapes.flatten_shapes.Goals as goal

pub filled-requires : goal.filled-requires
filled-requires c =
    sorted_alike c.draw_cell.new.sheets.items c.in_ok-sheets.sheets.items c.in_ok-draw_cell.ensures.drawn.drawn.layers
    c.in_ok-sheets.ensures.sorted

pub returns-clause-covers : goal.returns-clause-covers
returns-clause-covers c =
    let cell : PlainCell Rings = c.args.cell.now in
    let new : List PlainSheet = c.draw_cell.new.sheets.items in
    let drawn : IsDrawn (cell ∷ []) 0 unmoved Everything c.in_ok-sheets.sheets.items new =
    subst (λ cs. IsDrawn cs 0 unmoved Everything c.in_ok-sheets.sheets.items new) c.from_ref-alone.ensures.value
    c.in_ok-draw_cell.ensures.drawn in
    λ layer s. subst
    (λ (f : List PlainSheet). SomeCovers (rings_on layer f) s ↔ Any (ShapeCovers SomeCovers layer s) cell.shapes)
    (sym c.in_ok-filled.ensures)
    (own_covers cell c.in_ok-sheets.sheets.items new c.in_ok-sheets.ensures.sorted
    (subst (AllListed (map layer_of c.in_ok-sheets.sheets.items)) c.from_ref-alone.ensures.value
    c.in_ok-sheets.ensures.layers)
    (rings_on_empty c.in_ok-sheets.sheets.items c.in_ok-sheets.ensures.empty) drawn layer s)

pub returns-in_err-draw_cell-clause-err : goal.returns-in_err-draw_cell-clause-err
returns-in_err-draw_cell-clause-err c =
    let cell : PlainCell Rings = c.args.cell.now in
    let fault = c.in_err-draw_cell.field-0.0 in
    let reported : Says fault (IsEnterFault (cell ∷ []) 0 unmoved) =
    subst (λ cs. Says fault (IsEnterFault cs 0 unmoved)) c.from_ref-alone.ensures.value
    c.in_err-draw_cell.ensures.err in
    let p = err_from_is_err_and c.from_residual-in_err-draw_cell.result c.from_residual-in_err-draw_cell.ensures.1 in
    rw (p.1, p.2) (Says-map (IsEnterFault (cell ∷ []) 0 unmoved) _ fault (own_out cell) reported)
