use Rattle.std.proofs.Common.{take, subst}
use Rattle.lvl_cells.specs.Cells.{Rings}
use Rattle.lvl_cells.specs.inside.Spans.{IsPrefixOf}
use Rattle.lvl_cells.proofs.Outlined.{goes_on_twice}
use Rattle.lvl_cells.proofs.outlines.Outlines.push_all.Goals as goal

pub returns-in_err-push_ring-clause-before : goal.returns-in_err-push_ring-clause-before
returns-in_err-push_ring-clause-before c =
    goes_on_twice c.args.self.now (take c.loop-ring.ring-index c.args.rings.now) c.push_ring.new.self
    (subst (λ (rs : Rings). IsPrefixOf rs c.push_ring.new.self) c.loop-ring.invariant c.push_ring.ensures.before)
