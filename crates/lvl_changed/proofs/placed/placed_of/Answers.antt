use Rattle.std.proofs.Common.{◌≡◌, ◌↔◌, ◌<◌, ◌≤◌, List, [], Some, length, slice_get, refl, sym, ap, ◌∙◌, subst, arith}
use Rattle.std.proofs.lemmas.List.{take_all}
use Rattle.std.proofs.lemmas.Option.{slice_get_read}
use Rattle.lvl_cells.specs.Cells.{PlainCell, PlainReference, Rings}
use Rattle.lvl_changed.specs.declared.placements.Placement.{Placement}
use Rattle.lvl_changed.specs.inside.Arrays.{all_places}
use Rattle.lvl_changed.specs.inside.Placements.{PlacedCover, ReferencesCover}
use Rattle.lvl_changed.proofs.Placing.{own_more, own_none}
use Rattle.lvl_changed.proofs.Own.{some_then}
use Rattle.lvl_changed.proofs.placed.placed_of.Goals as goal

pub loop-j-init : goal.loop-j-init
loop-j-init c = λ b at l s.
    subst
    (λ (ps : List Placement). PlacedCover c.args.checked.now.cells ps l s
    ↔ ReferencesCover c.args.checked.now.cells [] l s) (sym c.none-placed.ensures)
    (own_none c.args.checked.now.cells l s)

pub array_of-requires-clause-reference : goal.array_of-requires-clause-reference
array_of-requires-clause-reference c =
    let cells : List (PlainCell Rings) = c.args.checked.now.cells in
    let cell : PlainCell Rings = c.index-cells-cell.result in
    let read : slice_get c.cells.result.now c.args.cell ≡ Some cell =
    slice_get_read c.cells.result.now (length c.cells.result.now) c.args.cell cell refl
    (omega (arith, c.requires, ap length c.cells.ensures.value)) c.index-cells-cell.is in
    let there : slice_get cells c.args.cell ≡ Some cell =
    subst (λ (cs : List (PlainCell Rings)). slice_get cs c.args.cell ≡ Some cell) c.cells.ensures.value read in
    let kept : c.parent.inside.references ≡ cell.references =
    ap (λ (b : PlainCell Rings). b.references) c.parent.view_is in
    (cell, there, omega (arith, c.loop-j-test.true, c.len-j-end.ensures, ap length kept))

pub loop-j-preserved : goal.loop-j-preserved
loop-j-preserved c = λ b at l s.
    let cells : List (PlainCell Rings) = c.args.checked.now.cells in
    let cell : PlainCell Rings = c.index-cells-cell.result in
    let read : slice_get c.cells.result.now c.args.cell ≡ Some cell =
    slice_get_read c.cells.result.now (length c.cells.result.now) c.args.cell cell refl
    (omega (arith, c.requires, ap length c.cells.ensures.value)) c.index-cells-cell.is in
    let there : slice_get cells c.args.cell ≡ Some cell =
    subst (λ (cs : List (PlainCell Rings)). slice_get cs c.args.cell ≡ Some cell) c.cells.ensures.value read in
    let both : Some cell ≡ Some b = sym there ∙ at in
    let one : cell ≡ b = cc in
    let kept : c.parent.inside.references ≡ b.references =
    ap (λ (d : PlainCell Rings). d.references) (c.parent.view_is ∙ one) in
    let low : c.loop-j.j < length b.references =
    omega (arith, c.loop-j-test.true, c.len-j-end.ensures, ap length kept) in
    own_more cells c.args.cell c.loop-j.j b _ _ c.in_ok-array_of.field-0 at low c.in_ok-array_of.ensures
    c.in_ok-push.ensures l s (c.loop-j.invariant b at l s)

pub returns : goal.returns
returns c =
    let cells : List (PlainCell Rings) = c.args.checked.now.cells in
    let cell : PlainCell Rings = c.index-cells-cell.result in
    let read : slice_get c.cells.result.now c.args.cell ≡ Some cell =
    slice_get_read c.cells.result.now (length c.cells.result.now) c.args.cell cell refl
    (omega (arith, c.requires, ap length c.cells.ensures.value)) c.index-cells-cell.is in
    let there : slice_get cells c.args.cell ≡ Some cell =
    subst (λ (cs : List (PlainCell Rings)). slice_get cs c.args.cell ≡ Some cell) c.cells.ensures.value read in
    some_then (slice_get cells c.args.cell) _
    (λ b at l s.
    let both : Some cell ≡ Some b = sym there ∙ at in
    let one : cell ≡ b = cc in
    let kept : c.parent.inside.references ≡ b.references =
    ap (λ (d : PlainCell Rings). d.references) (c.parent.view_is ∙ one) in
    let long : length b.references ≤ c.loop-j.j =
    omega (arith, c.loop-j-test.false, c.len-j-end.ensures, ap length kept) in
    subst (λ (rs : List PlainReference). PlacedCover cells (all_places c.loop-j.placed) l s ↔ ReferencesCover cells rs l s)
    (take_all c.loop-j.j b.references long) (c.loop-j.invariant b at l s))
