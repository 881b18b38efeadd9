use Rattle.std.proofs.Common.{◌↔◌, subst, Option}
use Rattle.std.specs.Option.{IfSome}
use Rattle.std.proofs.lemmas.Result.{on_ok_weaker}
use Rattle.lvl_grid.specs.declared.point.Square.{Square}
use Rattle.lvl_grid.specs.declared.ring.Ring.{Ring}
use Rattle.lvl_grid.specs.Winding.{Covers}
use Rattle.lvl_simplify.proofs.Joining.{any_pushed}
use Rattle.lvl_simplify.proofs.Redrawing.{same_pushed}
use Rattle.lvl_simplify.proofs.simplify.push_shorter.Goals as goal

pub returns-in-Some : goal.returns-in-Some
returns-in-Some c =
    let reported : (s : Square) → Covers c.args.ring.now s ↔ Covers c.in-Some.shorter s =
    subst (λ (o : Option Ring). IfSome o (λ other. (s : Square) → Covers c.args.ring.now s ↔ Covers other s))
    c.in-Some.is c.in_ok-shorter.ensures in
    on_ok_weaker c.push_ring.result
    (λ e s.
    same_pushed (any_pushed (λ ring. Covers ring s) c.args.rings.now c.push_ring.new.self c.in-Some.shorter e)
    (reported s))
    c.push_ring.ensures.ok

pub returns : goal.returns
returns c =
    on_ok_weaker c.push.result
    (λ e s. any_pushed (λ ring. Covers ring s) c.args.rings.now c.push.new.self c.args.ring.now e) c.push.ensures.ok
