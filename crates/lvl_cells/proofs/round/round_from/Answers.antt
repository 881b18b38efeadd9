use Rattle.std.proofs.Common.{arith}
use Rattle.lvl_cells.proofs.Rounds.{visit_there}
use Rattle.lvl_cells.proofs.round.round_from.Goals as goal

pub unreachable-requires : goal.unreachable-requires
unreachable-requires c =
    let at = visit_there c.args.path.now c.args.start c.requires in
    c.loop-k.invariant at.0 at.1 (omega (arith, at.2, c.loop-k-test.false)) at.3 at.4
