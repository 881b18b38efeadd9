use Rattle.std.proofs.Common.{◌≡◌, ◌<◌, ℕ, List, false, pos, inl, inr, get_or, length, subst}
use Rattle.std.proofs.lemmas.List.{get_or_default, take_all}
use Rattle.lvl_grid.specs.declared.map.Turn.TheVariants.{R0}
use Rattle.lvl_grid.proofs.Anyone.{Any-nil}
use Rattle.lvl_cells.specs.Cells.{PlainCell, Rings}
use Rattle.lvl_view.specs.declared.map.LayerPair.{LayerPair}
use Rattle.lvl_view.specs.Views.{target_of}
use Rattle.lvl_changed.specs.declared.area.Area.{Area}
use Rattle.lvl_changed.specs.declared.placements.Placement.{Placement}
use Rattle.lvl_changed.specs.inside.Placements.{PlacedCover, PlacementCovers}
use Rattle.lvl_changed.proofs.Growing.{grows_further, grows_itself}
use Rattle.lvl_changed.proofs.Missed.{Misses}
use Rattle.lvl_changed.proofs.LeftPlaces.{placements_more}
use Rattle.lvl_changed.proofs.Placing.{placement_held}
use Rattle.lvl_changed.proofs.holding.hold_singles.Goals as goal

pub loop-placement-init : goal.loop-placement-init
loop-placement-init c = record {
  held = λ l s out x. Any-nil (PlacementCovers c.args.library.now.cells l s) x;
  kept = grows_itself c.args.area.now;
}

pub loop-placement-preserved : goal.loop-placement-preserved
loop-placement-preserved c =
    let cells : List (PlainCell Rings) = c.args.library.now.cells in
    let pairs : List LayerPair = c.args.view.now.pairs in
    let ps : List Placement = c.args.placements.now in
    let i : ℕ = c.loop-placement.placement-index in
    let none : Placement = record {
      cell = 0;
      map = record { flip = false; turn = R0; at = record { x = pos 0; y = pos 0 } };
    } in
    let p : Placement = get_or ps i none in
    let low : i < length ps = c.loop-placement-test.true in
    let is : p ≡ get_or ps i p = get_or_default ps i none p low in
    let new : Area = c.hold_placed_cell.new.self in
    let wide = c.in_ok-hold_placed_cell.ensures.kept in
    record {
      held = λ l s out x.
          elim ((placements_more ps i p cells l s low is).0 x) [
            | inl y ↦ c.loop-placement.invariant.held l s (λ h. out (wide.has (target_of pairs l) s h)) y
            | inr y ↦ out (placement_held pairs cells new p c.in_ok-hold_placed_cell.ensures.held l s y)
          ];
      kept = grows_further c.args.area.now c.loop-placement.area new c.loop-placement.invariant.kept wide;
    }

pub returns-clause-held : goal.returns-clause-held
returns-clause-held c =
    let area : Area = c.loop-placement.area in
    subst (λ (ps : List Placement). Misses area c.args.view.now.pairs (PlacedCover c.args.library.now.cells ps))
    (take_all c.loop-placement.placement-index c.args.placements.now c.loop-placement-test.false)
    c.loop-placement.invariant.held
