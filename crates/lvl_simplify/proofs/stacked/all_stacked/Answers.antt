use Rattle.std.proofs.Common.{List, ◌↔◌}
use Rattle.std.proofs.lemmas.List.Sorted.{IsPermutation-sym}
use Rattle.lvl_grid.specs.declared.point.Window.{Window}
use Rattle.lvl_grid.specs.Clip.{IsInWindow}
use Rattle.lvl_simplify.specs.Spanning.{IsWithinSome}
use Rattle.lvl_simplify.proofs.Joining.{any_permuted, all_again}
use Rattle.lvl_simplify.proofs.stacked.all_stacked.Goals as goal

pub returns : goal.returns
returns c = λ s.
    let sorted : List Window = c.sort_unstable_by_key.new.self.items in
    let found : List Window = c.in_ok-windows.windows.items in
    let moved = c.sort_unstable_by_key.ensures.permutation in
    let joined : IsWithinSome c.in_ok-windows-2.windows.items s ↔ IsWithinSome sorted s =
    rw c.deref.ensures.value at (c.in_ok-windows-2.ensures s) in
    all_again (c.in_ok-windows.ensures s) (
      λ a. any_permuted (λ window. IsInWindow window s) sorted found (IsPermutation-sym found sorted moved)
          (joined.0 a),
      λ a. joined.1 (any_permuted (λ window. IsInWindow window s) found sorted moved a),
    ) (λ k. k, λ k. k)
    (rw c.deref-2.ensures.value at (c.in_ok-push_windows.ensures s))
