use Rattle.std.proofs.Common.{List}
use Rattle.std.proofs.lemmas.List.Sorted.{Contains-permutation, IsPermutation-sym}
use Rattle.lvl_changed.specs.declared.arrays.Array.{Array}
use Rattle.lvl_changed.proofs.arrays.sort_arrays.Goals as goal

pub returns : goal.returns
returns c = λ a.
    let old : List Array = c.args.arrays.now.items in
    let new : List Array = c.sort_unstable_by_key.new.self.items in
    let moved = c.sort_unstable_by_key.ensures.permutation in (
      λ h. Contains-permutation old new a moved h,
      λ h. Contains-permutation new old a (IsPermutation-sym old new moved) h,
    )
