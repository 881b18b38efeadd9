use Rattle.std.proofs.Common.{w64, FitsSigned, rules, arith}
use Rattle.std.proofs.lemmas.Int.{ints, to_z-of_z}
use Rattle.lvl_simplify.proofs.Turns.{edge_pushed}
use Rattle.lvl_simplify.proofs.rows.push_turns.Goals as goal

pub returns : goal.returns
returns c = λ y.
    let a : FitsSigned w64 c.args.from.y = search rules in
    let b : FitsSigned w64 c.args.to.y = search rules in
    edge_pushed c.args.right y c.args.turns.now.items c.push.new.self.items c.push-2.new.self.items c.args.from
    c.args.to (grind (arith, ints)) (rw (to_z-of_z w64 _ a) at c.in_ok-push.ensures.items)
    (rw (to_z-of_z w64 _ b) at c.in_ok-push-2.ensures.items)
