use Rattle.std.proofs.Common.{w64, FitsSigned, rules}
use Rattle.std.proofs.lemmas.Int.{to_z-of_z}
use Rattle.lvl_simplify.specs.Redraw.{count_to}
use Rattle.lvl_simplify.proofs.Capping.{begin_pushed, end_pushed}
use Rattle.lvl_simplify.proofs.redraw.Ends.push.Goals as goal

pub returns-in_ok-push : goal.returns-in_ok-push
returns-in_ok-push c = λ y.
    let old = c.args.self.now in
    let fits : FitsSigned w64 c.args.turn.y = search rules in
    begin_pushed y old.begins.items c.push.new.self.items (count_to y old.ends.items) c.args.turn c.if-turn.true
    (rw (to_z-of_z w64 _ fits) at c.in_ok-push.ensures.items)

pub returns-in_ok-push-2 : goal.returns-in_ok-push-2
returns-in_ok-push-2 c = λ y.
    let old = c.args.self.now in
    let fits : FitsSigned w64 c.args.turn.y = search rules in
    end_pushed y (count_to y old.begins.items) old.ends.items c.push-else-turn.new.self.items c.args.turn
    c.if-turn.false
    (rw (to_z-of_z w64 _ fits) at c.in_ok-push-2.ensures.items)
