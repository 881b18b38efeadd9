use Rattle.lvl_corners.proofs.Nets.{net_permutation}
use Rattle.lvl_corners.proofs.part.cut_of.Goals as goal

pub returns-then-middle-end-clause-same : goal.returns-then-middle-end-clause-same
returns-then-middle-end-clause-same c = λ u v.
    net_permutation u v c.args.marks.now.items c.sort_unstable_by_key.new.self.items
    c.sort_unstable_by_key.ensures.permutation

pub returns-clause-same : goal.returns-clause-same
returns-clause-same c = λ u v.
    net_permutation u v c.args.marks.now.items c.sort_unstable_by_key.new.self.items
    c.sort_unstable_by_key.ensures.permutation
