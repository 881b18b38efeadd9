use Rattle.std.proofs.Common.{◌↔◌, ◌⊎◌, List, subst}
use Rattle.std.proofs.lemmas.List.{take_all}
use Rattle.lvl_grid.specs.declared.point.Window.{Window}
use Rattle.lvl_grid.specs.Clip.{IsInWindow}
use Rattle.lvl_grid.specs.Winding.{SomeCovers}
use Rattle.lvl_simplify.specs.Spanning.{IsWithinSome}
use Rattle.lvl_simplify.proofs.Joining.{any_next, added_next}
use Rattle.lvl_simplify.proofs.spanning.push_windows.Goals as goal

pub loop-window-preserved : goal.loop-window-preserved
loop-window-preserved c = λ s.
    added_next (c.loop-window.invariant s) (c.in_ok-push_window.ensures s)
    (any_next (λ window. IsInWindow window s) c.args.windows.now c.loop-window.window-index _ c.loop-window-test.true)

pub returns : goal.returns
returns c = λ s.
    subst
    (λ (ws : List Window). SomeCovers c.loop-window.rings s ↔ (SomeCovers c.args.rings.now s ⊎ IsWithinSome ws s))
    (take_all c.loop-window.window-index c.args.windows.now c.loop-window-test.false) (c.loop-window.invariant s)
