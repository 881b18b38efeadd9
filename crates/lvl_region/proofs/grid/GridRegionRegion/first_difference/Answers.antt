use Rattle.lvl_region.proofs.Agreement.{agree_everywhere, none_both}
use Rattle.lvl_region.proofs.grid.GridRegionRegion.first_difference.Goals as goal

pub returns-clause-same : goal.returns-clause-same
returns-clause-same c =
    none_both _ _ _ _ (λ ours theirs. agree_everywhere c.args.self.now c.args.other.now
    (rw c.deref.ensures.value at ours) (rw c.deref-2.ensures.value at theirs))
    c.difference_on_rows.ensures.same_ours c.difference_on_rows.ensures.same_theirs
