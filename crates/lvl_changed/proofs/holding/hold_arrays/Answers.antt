use Rattle.std.proofs.Common.{◌≡◌, ◌<◌, ℕ, List, inl, inr, get_or, length, subst}
use Rattle.std.proofs.lemmas.List.{take_all}
use Rattle.lvl_grid.proofs.Anyone.{Any-nil}
use Rattle.lvl_cells.specs.Cells.{PlainCell, Rings}
use Rattle.lvl_view.specs.declared.map.LayerPair.{LayerPair}
use Rattle.lvl_view.specs.Views.{target_of}
use Rattle.lvl_changed.specs.declared.area.Area.{Area}
use Rattle.lvl_changed.specs.declared.arrays.Array.{Array}
use Rattle.lvl_changed.specs.inside.Arrays.{every_place}
use Rattle.lvl_changed.specs.inside.Placements.{PlacedCover, PlacementCovers}
use Rattle.lvl_changed.proofs.Arraying.{arrays_more}
use Rattle.lvl_changed.proofs.Growing.{grows_further, grows_itself}
use Rattle.lvl_changed.proofs.Missed.{Misses}
use Rattle.lvl_changed.proofs.holding.hold_arrays.Goals as goal

pub loop-array-init : goal.loop-array-init
loop-array-init c = record {
  held = λ l s out x. Any-nil (PlacementCovers c.args.library.now.cells l s) x;
  kept = grows_itself c.args.area.now;
}

pub loop-array-preserved : goal.loop-array-preserved
loop-array-preserved c =
    let cells : List (PlainCell Rings) = c.args.library.now.cells in
    let pairs : List LayerPair = c.args.view.now.pairs in
    let as' : List Array = c.args.arrays.now in
    let i : ℕ = c.loop-array.array-index in
    let a : Array = c.array-item.result in
    let low : i < length as' = c.loop-array-test.true in
    let is : a ≡ get_or as' i a = c.array-item.is in
    let wide = c.in_ok-hold_array.ensures.kept in
    record {
      held = λ l s out x.
          elim ((arrays_more cells as' i a l s low is).0 x) [
            | inl y ↦ c.loop-array.invariant.held l s (λ h. out (wide.has (target_of pairs l) s h)) y
            | inr y ↦ c.in_ok-hold_array.ensures.held l s out y
          ];
      kept = grows_further c.args.area.now c.loop-array.area c.hold_array.new.self c.loop-array.invariant.kept wide;
    }

pub returns-clause-held : goal.returns-clause-held
returns-clause-held c =
    let area : Area = c.loop-array.area in
    subst
    (λ (as' : List Array). Misses area c.args.view.now.pairs (PlacedCover c.args.library.now.cells (every_place as')))
    (take_all c.loop-array.array-index c.args.arrays.now c.loop-array-test.false) c.loop-array.invariant.held
