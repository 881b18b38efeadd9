use Rattle.std.proofs.Common.{◌≡◌, ◌<◌, ◌+◌, ℕ, List, take, get_or, length, sym, subst}
use Rattle.std.proofs.lemmas.List.{take_all}
use Rattle.lvl_changed.specs.declared.arrays.Array.{Array}
use Rattle.lvl_changed.specs.declared.placed.Placed.{Placed}
use Rattle.lvl_changed.specs.declared.placements.Placement.{Placement}
use Rattle.lvl_changed.specs.inside.Arrays.{all_places, AreListed}
use Rattle.lvl_changed.proofs.Arraying.{listed_among, listed_more, listed_none}
use Rattle.lvl_changed.proofs.listing.list_alone.Goals.{then-not-is_at+in_ok-list_array, else-not-is_at}
use Rattle.lvl_changed.proofs.listing.list_alone.Goals as goal

pub loop-array-init : goal.loop-array-init
loop-array-init c = λ cells l s. listed_none cells (all_places c.args.placed.now) c.args.others.now l s

pub loop-array-preserved : goal.loop-array-preserved
loop-array-preserved c =
    let first : List Placement = all_places c.args.placed.now in
    let as' : List Array = c.args.arrays.now in
    let others : List Array = c.args.others.now in
    let i : ℕ = c.loop-array.array-index in
    let a : Array = c.array-item.result in
    let low : i < length as' = c.loop-array-test.true in
    let is : a ≡ get_or as' i a = c.array-item.is in
    let before : List Placement = all_places c.loop-array.placed in
    let Listed : Placed → Type 0 = λ p. AreListed first (all_places p) (take (i + 1) as') others in
    elim c.if-not-is_at.branch [
      | then-not-is_at+in_ok-list_array w ↦
          subst Listed (sym w.placed-is)
          (λ cells l s. listed_more cells first before (all_places w.list_array.new.placed) as' others i a l s low is
          (c.loop-array.invariant cells l s) (w.in_ok-list_array.ensures cells l s))
      | else-not-is_at w ↦
          subst Listed (sym w.placed-is)
          (λ cells l s. listed_among cells first before as' others i a l s low is (c.is_at.ensures w.if-not-is_at.false)
          (c.loop-array.invariant cells l s))
    ]

pub returns : goal.returns
returns c =
    subst
    (λ (as' : List Array). AreListed (all_places c.args.placed.now) (all_places c.loop-array.placed) as' c.args.others.now)
    (take_all c.loop-array.array-index c.args.arrays.now c.loop-array-test.false) c.loop-array.invariant
