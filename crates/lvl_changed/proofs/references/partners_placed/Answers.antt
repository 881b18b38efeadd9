use Rattle.std.proofs.Common.{◌≡◌, ◌<◌, ◌≤◌, ℕ, List, Some, length, slice_get, refl, sym, ap, ◌∙◌, subst, arith}
use Rattle.std.proofs.lemmas.List.{take_all}
use Rattle.std.proofs.lemmas.Option.{slice_get_read}
use Rattle.lvl_grid.proofs.Anyone.{Any-nil}
use Rattle.lvl_cells.specs.Cells.{PlainCell, PlainReference, Rings}
use Rattle.lvl_flat.specs.inside.Visits.{PickCovers}
use Rattle.lvl_changed.specs.declared.area.Area.{Area}
use Rattle.lvl_changed.specs.inside.Areas.{AlikeOutside}
use Rattle.lvl_changed.specs.inside.Placements.{ReferencesCover}
use Rattle.lvl_changed.specs.inside.Remains.{PartnersDraw}
use Rattle.lvl_changed.proofs.Adding.{reference_added}
use Rattle.lvl_changed.proofs.Own.{some_then}
use Rattle.lvl_changed.proofs.Growing.{grows_further, grows_itself}
use Rattle.lvl_changed.proofs.references.partners_placed.Goals as goal

pub loop-j-init : goal.loop-j-init
loop-j-init c = record {
  covers = λ pair known same b at l s out. (
    λ x. absurd (Any-nil (PickCovers c.args.checked.now.cells l s) x),
    λ x. absurd (c.none-partners.ensures pair l s x),
  );
  kept = grows_itself c.args.area.now;
}

pub array_of-requires-clause-reference : goal.array_of-requires-clause-reference
array_of-requires-clause-reference c =
    let cells : List (PlainCell Rings) = c.args.checked.now.cells in
    let cell : PlainCell Rings = c.index-cells-cell.result in
    let read : slice_get c.cells.result.now c.args.cell ≡ Some cell =
    slice_get_read c.cells.result.now (length c.cells.result.now) c.args.cell cell refl
    (omega (arith, c.requires, ap length c.cells.ensures.value)) c.index-cells-cell.is in
    let there : slice_get cells c.args.cell ≡ Some cell =
    subst (λ (cs : List (PlainCell Rings)). slice_get cs c.args.cell ≡ Some cell) c.cells.ensures.value read in
    let kept : c.parent.inside.references ≡ cell.references =
    ap (λ (b : PlainCell Rings). b.references) c.parent.view_is in
    (cell, there, omega (arith, c.loop-j-test.true, c.len-j-end.ensures, ap length kept))

pub loop-j-preserved : goal.loop-j-preserved
loop-j-preserved c =
    let cells : List (PlainCell Rings) = c.args.checked.now.cells in
    let cell : PlainCell Rings = c.index-cells-cell.result in
    let j : ℕ = c.loop-j.j in
    let old : Area = c.loop-j.area in
    let new : Area = c.add.new.area in
    let wide = c.in_ok-add.ensures.kept in
    let read : slice_get c.cells.result.now c.args.cell ≡ Some cell =
    slice_get_read c.cells.result.now (length c.cells.result.now) c.args.cell cell refl
    (omega (arith, c.requires, ap length c.cells.ensures.value)) c.index-cells-cell.is in
    let there : slice_get cells c.args.cell ≡ Some cell =
    subst (λ (cs : List (PlainCell Rings)). slice_get cs c.args.cell ≡ Some cell) c.cells.ensures.value read in
    record {
      covers = λ pair known same b at.
          let both : Some cell ≡ Some b = sym there ∙ at in
          let one : cell ≡ b = cc in
          let kept : c.parent.inside.references ≡ b.references =
          ap (λ (d : PlainCell Rings). d.references) (c.parent.view_is ∙ one) in
          let low : j < length b.references =
          omega (arith, c.loop-j-test.true, c.len-j-end.ensures, ap length kept) in
          reference_added cells pair.first.now.cells c.args.cell j b c.in_ok-array_of.field-0 old new
          (PartnersDraw pair c.loop-j.partners) (PartnersDraw pair c.add.new.self) same at low c.in_ok-array_of.ensures
          wide (c.in_ok-add.ensures.added pair known) (c.loop-j.invariant.covers pair known same b at);
      kept = grows_further c.args.area.now old new c.loop-j.invariant.kept wide;
    }

pub returns-clause-covers : goal.returns-clause-covers
returns-clause-covers c = λ pair known same.
    let cells : List (PlainCell Rings) = c.args.checked.now.cells in
    let cell : PlainCell Rings = c.index-cells-cell.result in
    let read : slice_get c.cells.result.now c.args.cell ≡ Some cell =
    slice_get_read c.cells.result.now (length c.cells.result.now) c.args.cell cell refl
    (omega (arith, c.requires, ap length c.cells.ensures.value)) c.index-cells-cell.is in
    let there : slice_get cells c.args.cell ≡ Some cell =
    subst (λ (cs : List (PlainCell Rings)). slice_get cs c.args.cell ≡ Some cell) c.cells.ensures.value read in
    some_then (slice_get cells c.args.cell) _
    (λ b at.
    let both : Some cell ≡ Some b = sym there ∙ at in
    let one : cell ≡ b = cc in
    let kept : c.parent.inside.references ≡ b.references =
    ap (λ (d : PlainCell Rings). d.references) (c.parent.view_is ∙ one) in
    let long : length b.references ≤ c.loop-j.j =
    omega (arith, c.loop-j-test.false, c.len-j-end.ensures, ap length kept) in
    subst
    (λ (rs : List PlainReference). AlikeOutside c.loop-j.area (ReferencesCover cells rs)
    (PartnersDraw pair c.loop-j.partners)) (take_all c.loop-j.j b.references long)
    (c.loop-j.invariant.covers pair known same b at))
