use Rattle.lvl_changed.proofs.Arraying.{array_added, single_added}
use Rattle.lvl_changed.proofs.placed.Placed.push.Goals as goal

pub returns-then-not-is_single : goal.returns-then-not-is_single
returns-then-not-is_single c = λ cells l s.
    array_added cells c.args.self.now.singles.items c.args.self.now.arrays.items c.push.new.self.items c.args.array l s
    c.in_ok-push.ensures.items

pub returns : goal.returns
returns c = λ cells l s.
    single_added cells c.args.self.now.singles.items c.args.self.now.arrays.items c.push-2.new.self.items c.args.array l s
    (c.is_single.ensures.0 c.if-not-is_single.false) c.in_ok-push-2.ensures.items
