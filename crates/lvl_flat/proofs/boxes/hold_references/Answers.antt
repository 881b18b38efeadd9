use Rattle.std.proofs.Common.{◌≡◌, ◌<◌, ℕ, List, Some, Contains, take, length, slice_get, refl, sym, ap, ◌∙◌}
use Rattle.std.proofs.Common.{subst, arith}
use Rattle.std.specs.Prelude.{IfSome}
use Rattle.std.proofs.lemmas.Grind.{common_steps}
use Rattle.std.proofs.lemmas.List.{take_all}
use Rattle.std.proofs.lemmas.List.Elements.{All-more}
use Rattle.std.proofs.lemmas.Option.{get_or_from_slice_get, slice_get_read, slice_get_within, gets}
use Rattle.lvl_grid.specs.declared.point.Point.{Point}
use Rattle.lvl_cells.specs.Cells.{PlainCell, PlainReference, Rings, cell_named}
use Rattle.lvl_flat.specs.declared.bounds.Bounds.{Bounds}
use Rattle.lvl_flat.specs.inside.Bounds.{HoldsPick, HoldsPicks}
use Rattle.lvl_flat.proofs.Holding.{widens_itself, widens_further, picks_wider, reference_holds}
use Rattle.lvl_flat.proofs.boxes.hold_references.Goals as goal

pub loop-j-init : goal.loop-j-init
loop-j-init c = record { wider = widens_itself c.args.bounds; held = λ known k d lt. absurd (omega (arith, lt)) }

pub loop-j-preserved : goal.loop-j-preserved
loop-j-preserved c =
    let cells : List (PlainCell Rings) = c.args.checked.now.cells in
    let cell : PlainCell Rings = c.index-cells-cell.result in
    let items : List PlainReference = c.place.inside.references in
    let kept : items ≡ cell.references = ap (λ (x : PlainCell Rings). x.references) c.place.view_is in
    let j : ℕ = c.loop-j.j in
    let r : PlainReference = c.reference-reference.result in
    let here : slice_get items j ≡ Some r = c.reference-reference.ensures in
    let low : j < length items = slice_get_within items j r here in
    let b : Bounds = c.in_ok-held.held in
    let inner : Bounds = c.in-Some-Some.inner in
    let t = c.in-Some.ensures.target in
    let wider = c.in_ok-held.ensures.wider in
    record {
      wider = widens_further c.args.bounds c.loop-j.held b c.loop-j.invariant.wider wider;
      held = λ known.
          let at : slice_get c.args.known.now c.in-Some.target ≡ Some (Some inner) =
          grind (arith, common_steps, gets, c.in-Some-Some.ensures.lookup) in
          let read : slice_get c.cells.result.now c.args.cell ≡ Some cell =
          slice_get_read c.cells.result.now (length c.cells.result.now) c.args.cell cell refl
          (omega (arith, c.requires, ap length c.cells.ensures.value)) c.index-cells-cell.is in
          let there : slice_get cells c.args.cell ≡ Some cell =
          subst (λ (cs : List (PlainCell Rings)). slice_get cs c.args.cell ≡ Some cell) c.cells.ensures.value
          read in
          let both : Some t.cell ≡ Some cell = sym t.cell_is ∙ there in
          let one : t.cell ≡ cell = cc in
          let refs : t.cell.references ≡ items = ap (λ (x : PlainCell Rings). x.references) one ∙ sym kept in
          let named_there : Some t.reference ≡ Some r = sym t.reference_is ∙ (ap (λ rs. slice_get rs j) refs ∙ here) in
          let same : t.reference ≡ r = cc in
          let named : cell_named cells r.cell ≡ Some t.target =
          ap (λ (q : PlainReference). cell_named cells q.cell) (sym same) ∙ t.named in
          let chains = (known c.in-Some.target inner t.target at t.target_is).1 in
          let last : (e : Point) → Contains r.shifts e → HoldsPick cells b r e =
          reference_holds cells b inner r t.target named chains c.in_ok-held.ensures.held in
          All-more (λ (q : PlainReference). (e : Point) → Contains q.shifts e → HoldsPick cells b q e) items j r
          low
          (picks_wider cells c.loop-j.held b (take j items) wider (c.loop-j.invariant.held known))
          (subst (λ (q : PlainReference). (e : Point) → Contains q.shifts e → HoldsPick cells b q e)
          (sym (get_or_from_slice_get items j r r here)) last);
    }

pub returns-clause-held : goal.returns-clause-held
returns-clause-held c = λ known.
    let cells : List (PlainCell Rings) = c.args.checked.now.cells in
    let cell : PlainCell Rings = c.index-cells-cell.result in
    let items : List PlainReference = c.place.inside.references in
    let kept : items ≡ cell.references = ap (λ (x : PlainCell Rings). x.references) c.place.view_is in
    let read : slice_get c.cells.result.now c.args.cell ≡ Some cell =
    slice_get_read c.cells.result.now (length c.cells.result.now) c.args.cell cell refl
    (omega (arith, c.requires, ap length c.cells.ensures.value)) c.index-cells-cell.is in
    let there : slice_get cells c.args.cell ≡ Some cell =
    subst (λ (cs : List (PlainCell Rings)). slice_get cs c.args.cell ≡ Some cell) c.cells.ensures.value read in
    let all : take c.loop-j.j items ≡ cell.references =
    take_all c.loop-j.j items (omega (arith, c.loop-j-test.false, c.len-j-end.ensures)) ∙ kept in
    let held : HoldsPicks cells c.loop-j.held cell.references =
    subst (HoldsPicks cells c.loop-j.held) all (c.loop-j.invariant.held known) in
    subst (λ o. IfSome o (λ (x : PlainCell Rings). HoldsPicks cells c.loop-j.held x.references)) (sym there) held
