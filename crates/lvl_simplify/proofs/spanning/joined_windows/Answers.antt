use Rattle.std.proofs.Common.{List}
use Rattle.std.proofs.lemmas.List.Sorted.{IsPermutation-sym}
use Rattle.std.proofs.lemmas.Result.{IfOk-weaker}
use Rattle.lvl_grid.specs.declared.point.Window.{Window}
use Rattle.lvl_grid.specs.Clip.{IsInWindow}
use Rattle.lvl_simplify.proofs.Joining.{any_permuted}
use Rattle.lvl_simplify.proofs.spanning.joined_windows.Goals as goal

pub returns : goal.returns
returns c =
    let sorted : List Window = c.sort_unstable_by_key.new.self.items in
    let given : List Window = c.args.windows.items in
    let moved = c.sort_unstable_by_key.ensures.permutation in
    IfOk-weaker c.joined_in_order.result _ _
    (λ joined same s. (
      λ a. any_permuted (λ window. IsInWindow window s) sorted given (IsPermutation-sym given sorted moved)
          (rw c.deref.ensures.value at ((same s).0 a)),
      λ a. (same s).1 (rw c.deref.ensures.value (any_permuted (λ window. IsInWindow window s) given sorted moved a)),
    ))
    c.joined_in_order.ensures
