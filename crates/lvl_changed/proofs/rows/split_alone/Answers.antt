use Rattle.std.proofs.Common.{◌≡◌, ◌<◌, ◌+◌, [], ℕ, List, take, get_or, length, sym, ap, subst}
use Rattle.std.proofs.lemmas.List.{take_all}
use Rattle.lvl_changed.specs.declared.arrays.Array.{Array}
use Rattle.lvl_changed.specs.inside.Rows.{AreSplit}
use Rattle.lvl_changed.proofs.Rowing.{split_among, split_more, split_none}
use Rattle.lvl_changed.proofs.rows.split_alone.Goals.{then-not-is_at+in_ok-add_split, else-not-is_at}
use Rattle.lvl_changed.proofs.rows.split_alone.Goals as goal

pub loop-array-init : goal.loop-array-init
loop-array-init c =
    subst (λ (xs : List Array). AreSplit [] c.args.others.now xs) (sym c.new-split.ensures.items)
    (split_none c.args.others.now)

pub loop-array-preserved : goal.loop-array-preserved
loop-array-preserved c =
    let as' : List Array = c.args.arrays.now in
    let others : List Array = c.args.others.now in
    let i : ℕ = c.loop-array.array-index in
    let a : Array = c.array-item.result in
    let low : i < length as' = c.loop-array-test.true in
    let is : a ≡ get_or as' i a = c.array-item.is in
    let before : List Array = c.loop-array.split.items in
    elim c.if-not-is_at.branch [
      | then-not-is_at+in_ok-add_split w ↦
          subst (λ (xs : List Array). AreSplit (take (i + 1) as') others xs) (sym (ap (λ v. v.items) w.split-is))
          (split_more as' others before w.add_split.new.all.items i a low is w.in_ok-add_split.ensures
          c.loop-array.invariant)
      | else-not-is_at w ↦
          subst (λ (xs : List Array). AreSplit (take (i + 1) as') others xs) (sym (ap (λ v. v.items) w.split-is))
          (split_among as' others before i a low is (c.is_at.ensures w.if-not-is_at.false) c.loop-array.invariant)
    ]

pub returns : goal.returns
returns c =
    subst (λ (as' : List Array). AreSplit as' c.args.others.now c.loop-array.split.items)
    (take_all c.loop-array.array-index c.args.arrays.now c.loop-array-test.false) c.loop-array.invariant
