use Rattle.std.proofs.Common.{List, subst, ◌↔◌}
use Rattle.std.proofs.lemmas.List.{take_all}
use Rattle.lvl_grid.specs.declared.point.Window.{Window}
use Rattle.lvl_grid.specs.Clip.{IsInWindow}
use Rattle.lvl_simplify.specs.Spanning.{IsWithinSome}
use Rattle.lvl_simplify.proofs.Joining.{any_next, same_next}
use Rattle.lvl_simplify.proofs.spanning.joined_in_order.Goals as goal

pub loop-window-preserved : goal.loop-window-preserved
loop-window-preserved c = λ s.
    same_next (c.loop-window.invariant s) (c.in_ok-push_joined.ensures s)
    (any_next (λ window. IsInWindow window s) c.args.windows.now c.loop-window.window-index _ c.loop-window-test.true)

pub returns : goal.returns
returns c = λ s.
    subst (λ (ws : List Window). IsWithinSome c.loop-window.joined.items s ↔ IsWithinSome ws s)
    (take_all c.loop-window.window-index c.args.windows.now c.loop-window-test.false) (c.loop-window.invariant s)
