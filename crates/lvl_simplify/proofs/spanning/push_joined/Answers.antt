use Rattle.std.proofs.Common.{◌≡◌, ◌++◌, ◌∷◌, [], List, ap, ◌∙◌, sym}
use Rattle.lvl_grid.specs.declared.point.Window.{Window}
use Rattle.lvl_grid.specs.Clip.{IsInWindow}
use Rattle.lvl_simplify.proofs.Joining.{any_pushed, any_replaced}
use Rattle.lvl_simplify.proofs.spanning.push_joined.Goals as goal

pub returns-in-Some-join_rows : goal.returns-in-Some-join_rows
returns-in-Some-join_rows c = λ s.
    any_replaced (λ window. IsInWindow window s) c.pop.new.self.items c.args.windows.now.items
    c.push-in-Some-join_rows.new.self.items c.in-Some.last c.args.next c.in-Some-join_rows.window
    c.in-Some.ensures.items
    c.in_ok-push-2.ensures.items (c.in-Some-join_rows.ensures s)

pub returns : goal.returns
returns c = λ s.
    let back : c.push-2.new.self.items ≡ c.args.windows.now.items =
    c.in_ok-push-3.ensures.items ∙ sym c.in-Some.ensures.items in
    any_pushed (λ window. IsInWindow window s) c.args.windows.now.items c.push-3.new.self.items c.args.next
    (c.in_ok-push-4.ensures.items ∙ ap (λ (ws : List Window). ws ++ c.args.next ∷ []) back)
