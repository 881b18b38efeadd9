use Rattle.std.proofs.Common.{List, subst}
use Rattle.std.proofs.lemmas.Result.{on_ok_weaker}
use Rattle.lvl_view.specs.declared.map.LayerPair.{LayerPair}
use Rattle.lvl_changed.specs.declared.area.Area.{Area}
use Rattle.lvl_changed.specs.declared.arrays.Array.{Array}
use Rattle.lvl_changed.specs.inside.Arrays.{every_place}
use Rattle.lvl_changed.specs.inside.Placements.{PlacedCover}
use Rattle.lvl_changed.proofs.Growing.{grows_further}
use Rattle.lvl_changed.proofs.Missed.{Misses, on_ok_both, rests_alike}
use Rattle.lvl_changed.proofs.holding.hold_rests.Goals as goal

pub returns-clause-held : goal.returns-clause-held
returns-clause-held c =
    let whole : List LayerPair = c.whole-whole.result.pairs in
    let v1 : Area = c.hold_arrays.new.area in
    let v2 : Area = c.hold_placed.new.area in
    let v3 : Area = c.hold_placed-2.new.area in
    let alone : Misses v1 whole (PlacedCover c.args.pair.now.first.now.cells (every_place c.args.rests.alone.items)) =
    subst (λ (as' : List Array). Misses v1 whole (PlacedCover c.args.pair.now.first.now.cells (every_place as')))
    c.deref.ensures.value c.in_ok-hold_arrays.ensures.held in
    on_ok_both c.hold_shapes.result
    (λ same wide.
    rests_alike c.args.pair.now c.args.rests whole v1 v2 v3 c.hold_shapes.new.area c.whole-whole.ensures.no_pairs
    c.in_ok-hold_placed.ensures.kept c.in_ok-hold_placed-2.ensures.kept wide alone c.in_ok-hold_placed.ensures.held
    c.in_ok-hold_placed-2.ensures.held same)
    c.hold_shapes.ensures.held c.hold_shapes.ensures.kept

pub returns-clause-kept : goal.returns-clause-kept
returns-clause-kept c =
    let v0 : Area = c.args.area.now in
    let v1 : Area = c.hold_arrays.new.area in
    let v2 : Area = c.hold_placed.new.area in
    let v3 : Area = c.hold_placed-2.new.area in
    let two = grows_further v0 v1 v2 c.in_ok-hold_arrays.ensures.kept c.in_ok-hold_placed.ensures.kept in
    let three = grows_further v0 v2 v3 two c.in_ok-hold_placed-2.ensures.kept in
    on_ok_weaker c.hold_shapes.result (λ wide. grows_further v0 v3 c.hold_shapes.new.area three wide)
    c.hold_shapes.ensures.kept
