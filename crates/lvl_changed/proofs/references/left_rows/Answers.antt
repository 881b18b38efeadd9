use Rattle.std.proofs.Common.{List, subst}
use Rattle.lvl_changed.specs.declared.arrays.Array.{Array}
use Rattle.lvl_changed.specs.declared.placed.Placed.{Placed}
use Rattle.lvl_changed.specs.inside.Arrays.{all_places}
use Rattle.lvl_changed.specs.inside.Rows.{AreSplit}
use Rattle.lvl_changed.proofs.LeftPlaces.{left_same, rows_left}
use Rattle.lvl_changed.proofs.references.left_rows.Goals as goal

pub returns-clause-ours : goal.returns-clause-ours
returns-clause-ours c =
    let x : Placed = c.in_order-first.result in
    let y : Placed = c.in_order-second.result in
    let rows : List Array = c.in_ok-rows.rows.items in
    let split : AreSplit x.arrays.items y.arrays.items rows =
    subst (λ (zs : List Array). AreSplit zs y.arrays.items rows) c.deref.ensures.value
    (subst (λ (zs : List Array). AreSplit c.deref.result.now zs rows) c.deref-2.ensures.value c.in_ok-rows.ensures) in
    left_same (all_places c.args.first) (all_places c.args.second) (all_places x) (all_places y)
    (all_places (record { singles = x.singles; arrays = c.in_ok-rows.rows })) c.in_order-first.ensures
    c.in_order-second.ensures
    (rows_left x.singles.items y.singles.items x.arrays.items y.arrays.items rows split)

pub returns-clause-theirs : goal.returns-clause-theirs
returns-clause-theirs c =
    let x : Placed = c.in_order-first.result in
    let y : Placed = c.in_order-second.result in
    let rows : List Array = c.in_ok-their_rows.their_rows.items in
    let split : AreSplit y.arrays.items x.arrays.items rows =
    subst (λ (zs : List Array). AreSplit zs x.arrays.items rows) c.deref-3.ensures.value
    (subst (λ (zs : List Array). AreSplit c.deref-3.result.now zs rows) c.deref-4.ensures.value
    c.in_ok-their_rows.ensures) in
    left_same (all_places c.args.second) (all_places c.args.first) (all_places y) (all_places x)
    (all_places (record { singles = y.singles; arrays = c.in_ok-their_rows.their_rows })) c.in_order-second.ensures
    c.in_order-first.ensures
    (rows_left y.singles.items x.singles.items y.arrays.items x.arrays.items rows split)
