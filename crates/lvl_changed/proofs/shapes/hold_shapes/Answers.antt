use Rattle.std.proofs.Common.{◌≡◌, ◌∙◌, List, ap, subst}
use Rattle.std.proofs.lemmas.Result.{on_ok_weaker}
use Rattle.lvl_grid.specs.declared.point.Square.{Square}
use Rattle.lvl_names.specs.declared.layer.Layer.{Layer}
use Rattle.lvl_cells.specs.Cells.{PlainCell, PlainShape, Rings}
use Rattle.lvl_changed.specs.declared.area.Area.{Area}
use Rattle.lvl_view.specs.declared.map.LayerPair.{LayerPair}
use Rattle.lvl_view.specs.Views.{target_of}
use Rattle.lvl_changed.specs.inside.Shapes.{ShapesCover}
use Rattle.lvl_changed.specs.inside.Areas.{AlikeOutside, IsIn}
use Rattle.lvl_changed.proofs.Leaving.{none_alike}
use Rattle.lvl_changed.proofs.Growing.{grows_further}
use Rattle.lvl_changed.proofs.shapes.hold_shapes.Goals as goal

-- the shapes cover nothing outside of the area, on their Layers as they are mapped
abbrev Misses : Area → List LayerPair → List (PlainShape Rings) → Type 0
Misses w pairs hs = (l : Layer) (s : Square) → (¬ IsIn w (target_of pairs l) s) → ¬ ShapesCover hs l s

pub returns-then-saturating_add-le-MOST_FLATTENED-clause-held : goal.returns-then-saturating_add-le-MOST_FLATTENED-clause-held
returns-then-saturating_add-le-MOST_FLATTENED-clause-held c =
    let mine : c.cell_of-ours.result.shapes ≡ c.args.ours = ap (λ (b : PlainCell Rings). b.shapes) c.cell_of-ours.ensures in
    let other : c.cell_of-theirs.result.shapes ≡ c.args.theirs =
    ap (λ (b : PlainCell Rings). b.shapes) c.cell_of-theirs.ensures in
    let area : Area = c.hold_flattened.new.area in
    on_ok_weaker c.hold_flattened.result
    (λ same.
    subst (λ (hs : List (PlainShape Rings)). AlikeOutside area (ShapesCover c.args.ours) (ShapesCover hs)) other
    (subst
    (λ (hs : List (PlainShape Rings)). AlikeOutside area (ShapesCover hs) (ShapesCover c.cell_of-theirs.result.shapes))
    mine same)) c.hold_flattened.ensures.held

pub returns-clause-held : goal.returns-clause-held
returns-clause-held c =
    let old : Area = c.hold_extents.new.area in
    let new : Area = c.hold_extents-2.new.area in
    let none : List LayerPair = c.whole-whole.result.pairs in
    let mine : c.ours.inside.shapes ≡ c.args.ours =
    ap (λ (b : PlainCell Rings). b.shapes) (c.ours.view_is ∙ c.cell_of-ours.ensures) in
    let other : c.theirs.inside.shapes ≡ c.args.theirs =
    ap (λ (b : PlainCell Rings). b.shapes) (c.theirs.view_is ∙ c.cell_of-theirs.ensures) in
    let first : Misses old none c.args.ours = subst (Misses old none) mine c.in_ok-hold_extents.ensures.held in
    let second : Misses new none c.args.theirs = subst (Misses new none) other c.in_ok-hold_extents-2.ensures.held in
    none_alike none c.args.ours c.args.theirs old new c.whole-whole.ensures.no_pairs c.in_ok-hold_extents-2.ensures.kept
    first second

pub returns-clause-kept : goal.returns-clause-kept
returns-clause-kept c =
    grows_further c.args.area.now c.hold_extents.new.area c.hold_extents-2.new.area c.in_ok-hold_extents.ensures.kept
    c.in_ok-hold_extents-2.ensures.kept
