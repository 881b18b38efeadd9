use Rattle.std.proofs.Common.{List, subst}
use Rattle.lvl_changed.specs.declared.arrays.Array.{Array}
use Rattle.lvl_changed.specs.declared.placed.Placed.{Placed}
use Rattle.lvl_changed.specs.declared.placements.Placement.{Placement}
use Rattle.lvl_changed.specs.inside.Arrays.{all_places, AreListed}
use Rattle.lvl_changed.proofs.LeftPlaces.{left_same, listed_left}
use Rattle.lvl_changed.proofs.references.left_arrays.Goals as goal

pub returns-clause-ours : goal.returns-clause-ours
returns-clause-ours c =
    let x : Placed = c.in_order-first.result in
    let y : Placed = c.in_order-second.result in
    let left : List Placement = all_places c.in_ok-ours.ours in
    let listed : AreListed x.singles.items left x.arrays.items y.arrays.items =
    subst (λ (zs : List Array). AreListed x.singles.items left zs y.arrays.items) c.deref.ensures.value
    (subst (λ (zs : List Array). AreListed x.singles.items left c.deref.result.now zs) c.deref-2.ensures.value
    c.in_ok-ours.ensures) in
    left_same (all_places c.args.first) (all_places c.args.second) (all_places x) (all_places y) left
    c.in_order-first.ensures c.in_order-second.ensures
    (listed_left x.singles.items y.singles.items left x.arrays.items y.arrays.items listed)

pub returns-clause-theirs : goal.returns-clause-theirs
returns-clause-theirs c =
    let x : Placed = c.in_order-first.result in
    let y : Placed = c.in_order-second.result in
    let left : List Placement = all_places c.in_ok-theirs.theirs in
    let listed : AreListed y.singles.items left y.arrays.items x.arrays.items =
    subst (λ (zs : List Array). AreListed y.singles.items left zs x.arrays.items) c.deref-3.ensures.value
    (subst (λ (zs : List Array). AreListed y.singles.items left c.deref-3.result.now zs) c.deref-4.ensures.value
    c.in_ok-theirs.ensures) in
    left_same (all_places c.args.second) (all_places c.args.first) (all_places y) (all_places x) left
    c.in_order-second.ensures c.in_order-first.ensures
    (listed_left y.singles.items x.singles.items left y.arrays.items x.arrays.items listed)
