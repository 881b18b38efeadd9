use Rattle.lvl_changed.proofs.Adding.{both_added}
use Rattle.lvl_changed.proofs.placed.Placed.append.Goals as goal

pub returns : goal.returns
returns c =
    both_added c.args.self.now.singles.items c.args.more.singles.items c.append.new.self.items c.args.self.now.arrays.items
    c.args.more.arrays.items c.append-2.new.self.items c.in_ok-append.ensures.items c.in_ok-append-2.ensures.items
