use Rattle.std.proofs.Common.{◌≡◌, List, Some, length, slice_get, refl, sym, ap, ◌∙◌, subst, arith}
use Rattle.std.proofs.lemmas.Option.{slice_get_read}
use Rattle.std.proofs.lemmas.Result.{IfOk-weaker}
use Rattle.lvl_cells.specs.Cells.{PlainCell, PlainReference, Rings}
use Rattle.lvl_changed.proofs.Placing.{array_of_reference}
use Rattle.lvl_changed.proofs.arrays.reference_at.Goals as goal

pub returns : goal.returns
returns c =
    let cells : List (PlainCell Rings) = c.args.checked.now.cells in
    let cell : PlainCell Rings = c.index-cells-cell.result in
    let t = c.target_of-target.ensures in
    let read : slice_get c.cells.result.now c.args.cell ≡ Some cell =
    slice_get_read c.cells.result.now (length c.cells.result.now) c.args.cell cell refl
    (omega (arith, c.requires.cell, ap length c.cells.ensures.value)) c.index-cells-cell.is in
    let there : slice_get cells c.args.cell ≡ Some cell =
    subst (λ (cs : List (PlainCell Rings)). slice_get cs c.args.cell ≡ Some cell) c.cells.ensures.value read in
    let both : Some t.cell ≡ Some cell = sym t.cell_is ∙ there in
    let one : t.cell ≡ cell = cc in
    let kept : c.parent.inside.references ≡ cell.references =
    ap (λ (b : PlainCell Rings). b.references) c.parent.view_is in
    let refs : t.cell.references ≡ c.parent.inside.references =
    ap (λ (b : PlainCell Rings). b.references) one ∙ sym kept in
    let here : slice_get t.cell.references c.args.j ≡ Some c.reference.result =
    ap (λ (rs : List PlainReference). slice_get rs c.args.j) refs ∙ c.reference.ensures in
    IfOk-weaker c.placing.result _ _
    (λ a is. array_of_reference cells c.args.cell c.args.j c.target_of-target.result c.reference.result a t here is)
    c.placing.ensures
