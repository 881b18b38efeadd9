use Rattle.std.proofs.Common.{◌≡◌, [], List, ap, sym, ◌∙◌, subst}
use Rattle.lvl_grid.specs.declared.point.Square.{Square}
use Rattle.lvl_names.specs.declared.layer.Layer.{Layer}
use Rattle.lvl_cells.specs.Cells.{PlainCell, PlainShape, Rings}
use Rattle.lvl_view.specs.declared.map.LayerPair.{LayerPair}
use Rattle.lvl_view.specs.Views.{target_of}
use Rattle.lvl_changed.specs.declared.area.Area.{Area}
use Rattle.lvl_changed.specs.inside.Areas.{IsIn}
use Rattle.lvl_changed.specs.inside.Shapes.{ShapesCover}
use Rattle.lvl_changed.proofs.Resting.{changes_have}
use Rattle.lvl_changed.proofs.rests.changes_round.Goals as goal

-- the shapes cover nothing outside of the area
abbrev Misses : Area → List LayerPair → List (PlainShape Rings) → Type 0
Misses w pairs hs = (l : Layer) (s : Square) → (¬ IsIn w (target_of pairs l) s) → ¬ ShapesCover hs l s

pub returns-clause-ours : goal.returns-clause-ours
returns-clause-ours c =
    let cell : PlainCell Rings = c.top_of-first.result.now in
    let none : List LayerPair = c.whole-whole.result.pairs in
    let old : Area = c.hold_extents.new.area in
    let new : Area = c.hold_extents-2.new.area in
    let alone : cell.references ≡ [] =
    sym (ap (λ (b : PlainCell Rings). b.references) c.first.view_is) ∙ c.is_empty.ensures.0 c.if-not-is_empty.false in
    let held : Misses old none cell.shapes =
    subst (Misses old none) (ap (λ (b : PlainCell Rings). b.shapes) c.first.view_is) c.in_ok-hold_extents.ensures.held in
    let wide = c.in_ok-hold_extents-2.ensures.kept in
    changes_have none c.args.rest.now cell new c.into_changes-changes.result c.whole-whole.ensures.no_pairs
    c.top_of-first.ensures alone (λ l s out. held l s (λ inside. out (wide.has (target_of none l) s inside)))
    c.into_changes-changes.ensures

pub returns-clause-theirs : goal.returns-clause-theirs
returns-clause-theirs c =
    let cell : PlainCell Rings = c.top_of-second.result.now in
    let none : List LayerPair = c.whole-whole.result.pairs in
    let new : Area = c.hold_extents-2.new.area in
    let alone : cell.references ≡ [] =
    sym (ap (λ (b : PlainCell Rings). b.references) c.second.view_is)
    ∙ c.is_empty-else-not-is_empty.ensures.0 c.if-not-is_empty-2.false in
    let held : Misses new none cell.shapes =
    subst (Misses new none) (ap (λ (b : PlainCell Rings). b.shapes) c.second.view_is)
    c.in_ok-hold_extents-2.ensures.held in
    changes_have none c.args.their_rest.now cell new c.into_changes-changes.result c.whole-whole.ensures.no_pairs
    c.top_of-second.ensures alone held c.into_changes-changes.ensures
