use Rattle.std.proofs.Common.{◌↔◌, subst, Option, Vec, Global}
use Rattle.std.specs.Option.{IfSome}
use Rattle.std.proofs.lemmas.Result.{on_ok_weaker}
use Rattle.lvl_grid.specs.declared.point.Square.{Square}
use Rattle.lvl_grid.specs.declared.point.Window.{Window}
use Rattle.lvl_grid.specs.Clip.{IsInWindow}
use Rattle.lvl_grid.specs.Winding.{Covers}
use Rattle.lvl_simplify.specs.Spanning.{IsWithinSome}
use Rattle.lvl_simplify.proofs.Joining.{any_pushed, any_appended, rows_more, rest_more}
use Rattle.lvl_simplify.proofs.spanning.part.Goals as goal

pub returns-in-Some : goal.returns-in-Some
returns-in-Some c = λ s.
    rows_more
    (any_pushed (λ window. IsInWindow window s) c.args.windows.now.items c.push.new.self.items c.in-Some.window
    c.in_ok-push.ensures.items) (c.in-Some.ensures s)

pub returns-in-Some-2 : goal.returns-in-Some-2
returns-in-Some-2 c = λ s.
    let reported : (s : Square) → Covers c.args.ring.now s ↔ IsWithinSome c.in-Some-2.rows.items s =
    subst (λ (o : Option (Vec Window Global)). IfSome o (λ windows. (s : Square) → Covers c.args.ring.now s
    ↔ IsWithinSome windows.items s)) c.in-Some-2.is c.in_ok-rows.ensures in
    rows_more
    (any_appended (λ window. IsInWindow window s) c.args.windows.now.items c.in-Some-2.rows.items
    c.extend_from_slice.new.self.items (rw c.deref.ensures.value at c.in_ok-extend_from_slice.ensures.items))
    (reported s)

pub returns : goal.returns
returns c =
    on_ok_weaker c.push-2.result
    (λ e s. rest_more (any_pushed (λ ring. Covers ring s) c.args.rest.now c.push-2.new.self c.args.ring.now e))
    c.push-2.ensures.ok
