use Rattle.lvl_changed.specs.inside.Arrays.{all_places}
use Rattle.lvl_changed.specs.inside.Placements.{PlacedCover}
use Rattle.lvl_changed.proofs.Remaining.{all_together, moved_sum}
use Rattle.lvl_changed.proofs.remains.Rests.open_ours.Goals as goal

pub returns-clause-opened : goal.returns-clause-opened
returns-clause-opened c = λ found l s out. (
  all_together (c.in_ok-shapes.ensures l s) (c.in_ok-partners.ensures.opened found l s out)
      (moved_sum c.args.pair.now.view.now.pairs (PlacedCover c.args.pair.now.second.now.cells (all_places c.append.new.self))
      (PlacedCover c.args.pair.now.second.now.cells (all_places c.in_ok-shapes.field-0.placed))
      (PlacedCover c.args.pair.now.second.now.cells (all_places c.in_ok-partners.partners.placed)) s
      (λ k. c.in_ok-append.ensures c.args.pair.now.second.now.cells k s) l),
  (λ h. h, λ h. h),
)
