use Rattle.std.proofs.Common.{◌≡◌, ℕ, List, length, get_or, slice_get, Some, None, pos, sym, ap, subst}
use Rattle.std.proofs.Common.{arith, refl}
use Rattle.std.proofs.lemmas.Option.{slice_get-get_or, slice_get_read}
use Rattle.lvl_grid.specs.declared.map.Map.{Map}
use Rattle.lvl_grid.specs.declared.point.Point.{Point}
use Rattle.lvl_grid.specs.Turn.{FitsPoint}
use Rattle.lvl_cells.specs.Cells.{PlainCell, PlainReference, Rings}
use Rattle.lvl_flat.proofs.Ranging.{composed_at}
use Rattle.lvl_flat.proofs.Stepping.{step_done, step_past, step_into, step_out}
use Rattle.lvl_flat.proofs.walk.next_step.Goals as goal

pub returns-then-visit-len : goal.returns-then-visit-len
returns-then-visit-len c =
    let cells : List (PlainCell Rings) = c.args.checked.now.cells in
    let cell : PlainCell Rings = c.index-cells-visit.result in
    let listed : slice_get c.cells.result.now c.args.visit.now.cell ≡ Some cell =
    slice_get_read c.cells.result.now (length c.cells.result.now) c.args.visit.now.cell cell refl
    (omega (arith, c.requires, ap length c.cells.ensures.value)) c.index-cells-visit.is in
    let at : slice_get cells c.args.visit.now.cell ≡ Some cell =
    subst (λ cs. slice_get cs c.args.visit.now.cell ≡ Some cell) c.cells.ensures.value listed in
    let references : c.cell.inside.references ≡ cell.references =
    ap (λ (b : PlainCell Rings). b.references) c.cell.view_is in
    step_done cells c.args.visit.now cell at (omega (arith, c.if-visit-len.true, c.len.ensures, ap length references))

pub returns-then-visit-shift_count : goal.returns-then-visit-shift_count
returns-then-visit-shift_count c =
    let cells : List (PlainCell Rings) = c.args.checked.now.cells in
    let cell : PlainCell Rings = c.index-cells-visit.result in
    let listed : slice_get c.cells.result.now c.args.visit.now.cell ≡ Some cell =
    slice_get_read c.cells.result.now (length c.cells.result.now) c.args.visit.now.cell cell refl
    (omega (arith, c.requires, ap length c.cells.ensures.value)) c.index-cells-visit.is in
    let at : slice_get cells c.args.visit.now.cell ≡ Some cell =
    subst (λ cs. slice_get cs c.args.visit.now.cell ≡ Some cell) c.cells.ensures.value listed in
    let references : c.cell.inside.references ≡ cell.references =
    ap (λ (b : PlainCell Rings). b.references) c.cell.view_is in
    let r : PlainReference = c.reference-reference.result in
    let found : slice_get c.cell.inside.references c.args.visit.now.reference ≡ Some r =
    c.reference-reference.ensures in
    let there : slice_get cell.references c.args.visit.now.reference ≡ Some r =
    subst (λ rs. slice_get rs c.args.visit.now.reference ≡ Some r) references found in
    step_past cells c.args.visit.now cell r at there
    (omega (arith, c.if-visit-shift_count.true, c.shift_count.ensures))

pub returns-in-None : goal.returns-in-None
returns-in-None c =
    let cells : List (PlainCell Rings) = c.args.checked.now.cells in
    let cell : PlainCell Rings = c.index-cells-visit.result in
    let listed : slice_get c.cells.result.now c.args.visit.now.cell ≡ Some cell =
    slice_get_read c.cells.result.now (length c.cells.result.now) c.args.visit.now.cell cell refl
    (omega (arith, c.requires, ap length c.cells.ensures.value)) c.index-cells-visit.is in
    let at : slice_get cells c.args.visit.now.cell ≡ Some cell =
    subst (λ cs. slice_get cs c.args.visit.now.cell ≡ Some cell) c.cells.ensures.value listed in
    let references : c.cell.inside.references ≡ cell.references =
    ap (λ (b : PlainCell Rings). b.references) c.cell.view_is in
    let r : PlainReference = c.reference-reference.result in
    let found : slice_get c.cell.inside.references c.args.visit.now.reference ≡ Some r =
    c.reference-reference.ensures in
    let there : slice_get cell.references c.args.visit.now.reference ≡ Some r =
    subst (λ rs. slice_get rs c.args.visit.now.reference ≡ Some r) references found in
    step_out cells c.args.visit.now cell r c.in-Some-target.target c.in-Some.inner at there
    c.in-Some.ensures.some c.in-Some-target.ensures.target
    (λ fits. let no = c.in-None.ensures.fits.1 fits in cc)

pub returns-in-Some-then : goal.returns-in-Some-then
returns-in-Some-then c =
    let cells : List (PlainCell Rings) = c.args.checked.now.cells in
    let cell : PlainCell Rings = c.index-cells-visit.result in
    let listed : slice_get c.cells.result.now c.args.visit.now.cell ≡ Some cell =
    slice_get_read c.cells.result.now (length c.cells.result.now) c.args.visit.now.cell cell refl
    (omega (arith, c.requires, ap length c.cells.ensures.value)) c.index-cells-visit.is in
    let at : slice_get cells c.args.visit.now.cell ≡ Some cell =
    subst (λ cs. slice_get cs c.args.visit.now.cell ≡ Some cell) c.cells.ensures.value listed in
    let references : c.cell.inside.references ≡ cell.references =
    ap (λ (b : PlainCell Rings). b.references) c.cell.view_is in
    let r : PlainReference = c.reference-reference.result in
    let found : slice_get c.cell.inside.references c.args.visit.now.reference ≡ Some r =
    c.reference-reference.ensures in
    let there : slice_get cell.references c.args.visit.now.reference ≡ Some r =
    subst (λ rs. slice_get rs c.args.visit.now.reference ≡ Some r) references found in
    let inner : Map = c.in-Some.inner in
    let map : Map = c.in-Some-then.map in
    let fits : FitsPoint map.at =
    subst FitsPoint (sym (composed_at c.args.visit.now.map inner map c.in-Some-then.ensures.composed))
    (c.in-Some-then.ensures.fits.0 refl) in
    step_into cells c.args.visit.now cell r c.in-Some-target.target inner map at there c.in-Some.ensures.some
    c.in-Some-target.ensures.target c.in-Some-then.ensures.composed fits

pub unreachable-requires : goal.unreachable-requires
unreachable-requires c =
    let shifts : List Point = c.reference-reference.result.shifts in
    let place : ℕ = c.args.visit.now.place in
    let none : Point = record { x = pos 0; y = pos 0 } in
    let some : slice_get shifts place ≡ Some (get_or shifts place none) =
    slice_get-get_or shifts place none
    (omega (arith, c.if-visit-shift_count.false, c.shift_count.ensures)) in
    let past : slice_get shifts place ≡ None = c.in_default.ensures.none in
    cc

pub unreachable-requires-in_default-target : goal.unreachable-requires-in_default-target
unreachable-requires-in_default-target c =
    let cells : List (PlainCell Rings) = c.args.checked.now.cells in
    let cell : PlainCell Rings = c.index-cells-visit.result in
    let listed : slice_get c.cells.result.now c.args.visit.now.cell ≡ Some cell =
    slice_get_read c.cells.result.now (length c.cells.result.now) c.args.visit.now.cell cell refl
    (omega (arith, c.requires, ap length c.cells.ensures.value)) c.index-cells-visit.is in
    let at : slice_get cells c.args.visit.now.cell ≡ Some cell =
    subst (λ cs. slice_get cs c.args.visit.now.cell ≡ Some cell) c.cells.ensures.value listed in
    let references : c.cell.inside.references ≡ cell.references =
    ap (λ (b : PlainCell Rings). b.references) c.cell.view_is in
    c.in_default-target.ensures.past
    (cell, at, omega (arith, c.if-visit-len.false, c.len.ensures, ap length references))
