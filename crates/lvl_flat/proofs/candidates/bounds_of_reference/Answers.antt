use Rattle.std.proofs.Common.{◌≡◌, Some, All, Any, slice_get, refl, sym, ap, subst, ◌∙◌}
use Rattle.std.proofs.lemmas.List.Elements.{All-contains}
use Rattle.lvl_grid.specs.declared.point.Point.{Point}
use Rattle.lvl_grid.specs.declared.map.Map.{Map}
use Rattle.lvl_grid.specs.Turn.{image, shifted}
use Rattle.lvl_cells.specs.Cells.{PlainCell, PlainReference, Rings, cell_named}
use Rattle.lvl_cells.specs.Checks.{IsTargetOf, Settled}
use Rattle.lvl_flat.specs.declared.bounds.Bounds.{Bounds}
use Rattle.lvl_flat.specs.declared.candidates.Part.TheVariants.{Reference}
use Rattle.lvl_flat.specs.Boxes.{HoldsPoint}
use Rattle.lvl_flat.specs.inside.Parts.{HasParts}
use Rattle.lvl_flat.specs.inside.Passing.{before_shifts}
use Rattle.lvl_flat.specs.inside.Visits.{PickCovers}
use Rattle.lvl_flat.proofs.Choosing.{if_some}
use Rattle.lvl_flat.proofs.Covering.{some_is}
use Rattle.lvl_flat.proofs.Holding.{moved_place}
use Rattle.lvl_flat.proofs.Outside.{reference_square}
use Rattle.lvl_flat.proofs.candidates.bounds_of_reference.Goals as goal

pub returns : goal.returns
returns c =
    let s : Settled = c.args.checked.now in
    let j = c.args.j in
    let r : PlainReference = c.in_ok-reference.reference in
    let m : Map = before_shifts r in
    let by : Bounds = c.bounds_of_places.result in
    let placed : Bounds = c.in_ok-placed.placed in
    let inner : Bounds = c.in_ok-get.field-0 in
    let target : IsTargetOf s.cells c.top-top.result j c.in_ok-target.target = c.in_ok-target.ensures.target in
    let at : slice_get s.cells s.top ≡ Some target.cell =
    ap (slice_get s.cells) (sym c.top-top.ensures.value) ∙ target.cell_is in
    let cell : PlainCell Rings = c.cell.result.now in
    let both_cells : Some cell ≡ Some target.cell = sym c.cell.ensures ∙ target.cell_is in
    let one_cell : cell ≡ target.cell = cc in
    let refs : c.behind-checked.inside.references ≡ target.cell.references =
    ap (λ (b : PlainCell Rings). b.references) (c.behind-checked.view_is ∙ one_cell) in
    let there : slice_get target.cell.references j ≡ Some r =
    subst (λ rs. slice_get rs j ≡ Some r) refs (sym c.get.ensures ∙ c.in_ok-reference.was) in
    let both : Some target.reference ≡ Some r = sym target.reference_is ∙ there in
    let one : target.reference ≡ r = cc in
    let shifts : All (HoldsPoint by) r.shifts = c.bounds_of_places.ensures in
    let held = (c.requires c.in_ok-target.target inner target.target c.in_ok-get.ensures target.target_is).1 in
    if_some (λ (b : Bounds). (p e : Point) → HoldsPoint placed p → HoldsPoint by e → HoldsPoint b (shifted e p))
    (HasParts s Reference j) c.moved.result
    (λ b holds top here layer q covers.
    let same : Some top ≡ Some target.cell = sym here ∙ at in
    let is : top ≡ target.cell = cc in
    let R : PlainReference → Type 0 = λ x. Any (λ e. PickCovers s.cells layer q (x, e)) x.shifts in
    let found = some_is R (slice_get top.references j) covers in
    let mine : slice_get target.cell.references j ≡ Some found.0 =
    subst (λ (t : PlainCell Rings). slice_get t.references j ≡ Some found.0) is found.1 in
    let pair : Some found.0 ≡ Some r = sym mine ∙ there in
    let equal : found.0 ≡ r = cc in
    reference_square s.cells layer b inner r target.target q
    (subst (λ (x : PlainReference). cell_named s.cells x.cell ≡ Some target.target) one target.named) held
    (λ p e has within.
    subst (HoldsPoint b) (moved_place r m e p refl refl refl)
    (holds (image m p) e (c.in_ok-placed.ensures p within) (All-contains (HoldsPoint by) r.shifts e shifts has)))
    (subst R equal found.2)) c.moved.ensures
