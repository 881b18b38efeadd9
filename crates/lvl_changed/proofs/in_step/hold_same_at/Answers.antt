use Rattle.std.proofs.Common.{◌≡◌, ℕ, List, Some, slice_get, take, subst, arith}
use Rattle.std.proofs.lemmas.Grind.{common_steps}
use Rattle.std.proofs.lemmas.Option.{gets}
use Rattle.lvl_cells.specs.Cells.{PlainCell, Rings}
use Rattle.lvl_cells.specs.Checks.{Settled}
use Rattle.lvl_view.specs.declared.map.LayerPair.{LayerPair}
use Rattle.lvl_view.specs.Moved.{IsMoved}
use Rattle.lvl_changed.specs.declared.area.Area.{Area}
use Rattle.lvl_changed.specs.declared.arrays.Array.{Array}
use Rattle.lvl_changed.specs.declared.found.Found.{Found}
use Rattle.lvl_changed.specs.inside.Arrays.{IsArrayOf}
use Rattle.lvl_changed.specs.inside.Placements.{ReferencesCover}
use Rattle.lvl_changed.proofs.Moving.{alike_wider}
use Rattle.lvl_changed.proofs.Placing.{reference_of, same_more}
use Rattle.lvl_changed.proofs.in_step.hold_same_at.Goals as goal

pub returns-clause-more : goal.returns-clause-more
returns-clause-more c = λ same known before x y at there.
    let pairs : List LayerPair = c.args.pair.now.view.now.pairs in
    let ours : List (PlainCell Rings) = c.args.pair.now.first.now.cells in
    let theirs : List (PlainCell Rings) = c.args.pair.now.second.now.cells in
    let j : ℕ = c.args.j in
    let a : Array = c.in_ok-array.array in
    let b : Array = c.in_ok-other.other in
    let f : Found = c.in-Some-Some.found in
    let old : Area = c.args.area.now in
    let new : Area = c.hold_places.new.self in
    let found_at : slice_get c.args.known.now a.cell ≡ Some (Some f) =
    grind (arith, common_steps, gets, c.in-Some-Some.ensures.lookup) in
    let is : IsArrayOf ours c.args.ours j a =
    subst (λ (z : Settled). IsArrayOf z.cells c.args.ours j a) c.checked.ensures.library c.in_ok-array.ensures in
    let other_is : IsArrayOf theirs c.args.theirs j b =
    subst (λ (z : Settled). IsArrayOf z.cells c.args.theirs j b) c.checked-2.ensures.library c.in_ok-other.ensures in
    let wide = c.in_ok-hold_places.ensures.kept in
    same_more pairs ours theirs c.args.ours c.args.theirs j x y a b f new at
    (reference_of ours c.args.ours j x c.requires.reference at) there
    (reference_of theirs c.args.theirs j y c.requires.other there) is other_is
    (c.if-not-places_partner.ensures.partner same) (c.if-not-places_partner.ensures.places same) (known a.cell f found_at)
    c.in_ok-hold_places.ensures.held
    (alike_wider old new (ReferencesCover ours (take j x.references))
    (IsMoved pairs (ReferencesCover theirs (take j y.references))) wide (before x y at there))
