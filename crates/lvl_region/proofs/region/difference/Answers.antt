use Rattle.lvl_region.proofs.Agreement.{through}
use Rattle.lvl_region.proofs.region.difference.Goals as goal

pub returns-clause-same : goal.returns-clause-same
returns-clause-same g c = through _ _ _ _ _ c.in_ok-a.ensures c.in_ok-b.ensures c.first_difference.ensures.same
