use Rattle.std.proofs.Common.{◌≡◌, List, Bool, true, ap, subst}
use Rattle.std.proofs.lemmas.Result.{IfOk-weaker}
use Rattle.lvl_cells.specs.Cells.{PlainCell, PlainShape, Rings}
use Rattle.lvl_view.specs.declared.map.LayerPair.{LayerPair}
use Rattle.lvl_view.specs.Moved.{IsMoved}
use Rattle.lvl_changed.specs.declared.arrays.Array.{Array}
use Rattle.lvl_changed.specs.inside.Arrays.{every_place}
use Rattle.lvl_changed.specs.inside.Opening.{Adds, IsUnder}
use Rattle.lvl_changed.specs.inside.Placements.{PlacedCover, ReferencesCover}
use Rattle.lvl_changed.specs.inside.Shapes.{ShapesCover}
use Rattle.lvl_changed.proofs.Under.{adds_none, adds_of_references, adds_of_shapes, all_opened}
use Rattle.lvl_changed.proofs.opening.open_array.Goals as goal

-- the shapes of a list are added, under the array
abbrev AddsThese : List LayerPair → Array → List (PlainShape Rings) → List (PlainShape Rings) → Bool
    → List (PlainShape Rings) → Type 0
AddsThese pairs a old new all hs =
    Adds (ShapesCover old) (ShapesCover new) (IsMoved pairs (λ l. IsUnder a (ShapesCover hs l))) all

pub returns-then-not-branch-clause-shapes : goal.returns-then-not-branch-clause-shapes
returns-then-not-branch-clause-shapes c =
    let a : Array = c.args.array.now in
    let pairs : List LayerPair = c.args.view.now.pairs in
    let kept : c.cell.inside.shapes ≡ c.cell-cell.result.now.shapes =
    ap (λ (d : PlainCell Rings). d.shapes) c.cell.view_is in
    adds_of_shapes pairs c.args.checked.now.cells a c.cell-cell.result.now (ShapesCover c.args.shapes.now)
    (ShapesCover c.open_shapes.new.opened) c.in_ok-open_shapes.field-0 c.cell-cell.ensures
    (subst (AddsThese pairs a c.args.shapes.now c.open_shapes.new.opened c.in_ok-open_shapes.field-0) kept
    c.in_ok-open_shapes.ensures)

pub returns-then-not-branch-clause-arrays : goal.returns-then-not-branch-clause-arrays
returns-then-not-branch-clause-arrays c = adds_none _ _

pub returns-clause-shapes : goal.returns-clause-shapes
returns-clause-shapes c =
    let a : Array = c.args.array.now in
    let pairs : List LayerPair = c.args.view.now.pairs in
    let kept : c.cell.inside.shapes ≡ c.cell-cell.result.now.shapes =
    ap (λ (d : PlainCell Rings). d.shapes) c.cell.view_is in
    IfOk-weaker c.open_references.result _ _
    (λ all given.
    adds_of_shapes pairs c.args.checked.now.cells a c.cell-cell.result.now (ShapesCover c.args.shapes.now)
    (ShapesCover c.open_shapes.new.opened) c.in_ok-open_shapes.field-0 c.cell-cell.ensures
    (subst (AddsThese pairs a c.args.shapes.now c.open_shapes.new.opened c.in_ok-open_shapes.field-0) kept
    c.in_ok-open_shapes.ensures)) c.open_references.ensures

pub returns-clause-arrays : goal.returns-clause-arrays
returns-clause-arrays c =
    IfOk-weaker c.open_references.result _ _
    (λ all given.
    adds_of_references c.args.checked.now.cells c.args.array.now c.cell-cell.result.now
    (PlacedCover c.args.checked.now.cells (every_place c.args.arrays.now.items))
    (PlacedCover c.args.checked.now.cells (every_place c.open_references.new.opened.items)) all c.cell-cell.ensures
    (given c.cell-cell.result.now c.cell-cell.ensures)) c.open_references.ensures

pub returns-clause-all : goal.returns-clause-all
returns-clause-all c =
    let a : Array = c.args.array.now in
    let pairs : List LayerPair = c.args.view.now.pairs in
    let cells : List (PlainCell Rings) = c.args.checked.now.cells in
    let kept : c.cell.inside.shapes ≡ c.cell-cell.result.now.shapes =
    ap (λ (d : PlainCell Rings). d.shapes) c.cell.view_is in
    let shapes : AddsThese pairs a c.args.shapes.now c.open_shapes.new.opened true c.cell-cell.result.now.shapes =
    subst (λ (b : Bool). AddsThese pairs a c.args.shapes.now c.open_shapes.new.opened b c.cell-cell.result.now.shapes)
    c.if-not-branch.false
    (subst (AddsThese pairs a c.args.shapes.now c.open_shapes.new.opened c.in_ok-open_shapes.field-0) kept
    c.in_ok-open_shapes.ensures) in
    let before = PlacedCover cells (every_place c.args.arrays.now.items) in
    let after = PlacedCover cells (every_place c.open_references.new.opened.items) in
    IfOk-weaker c.open_references.result _ _
    (λ all given yes.
    all_opened pairs cells a c.cell-cell.result.now (ShapesCover c.args.shapes.now) (ShapesCover c.open_shapes.new.opened)
    before after c.cell-cell.ensures shapes
    (subst (λ (b : Bool). Adds before after (λ l. IsUnder a (ReferencesCover cells c.cell-cell.result.now.references l)) b) yes (given c.cell-cell.result.now c.cell-cell.ensures)))
    c.open_references.ensures
