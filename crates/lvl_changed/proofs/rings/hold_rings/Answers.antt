use Rattle.lvl_changed.proofs.Growing.{both_grow}
use Rattle.lvl_changed.proofs.Missing.{none_is}
use Rattle.lvl_changed.proofs.Widening.{widens_further}
use Rattle.lvl_changed.proofs.rings.hold_rings.Goals as goal

pub returns-then-is_none-clause-held : goal.returns-then-is_none-clause-held
returns-then-is_none-clause-held c = λ s out.
    none_is c.in_ok-difference_in.field-0 _ c.if-is_none.ensures c.in_ok-difference_in.ensures.same s tt

pub returns-clause-held : goal.returns-clause-held
returns-clause-held c = λ s out.
    let on = c.in_ok-add.ensures.added in (
      λ a. c.in_ok-hold_missing.ensures.held s
          (λ h. out (on, c.in_ok-hold_missing-2.ensures.kept.has s h)) a,
      λ a. c.in_ok-hold_missing-2.ensures.held s (λ h. out (on, h)) a,
    )

pub returns-clause-kept : goal.returns-clause-kept
returns-clause-kept c =
    both_grow _ _ c.in_ok-add.ensures.kept (widens_further c.args.area.now.windows c.hold_missing.new.windows
    c.hold_missing-2.new.windows c.in_ok-hold_missing.ensures.kept c.in_ok-hold_missing-2.ensures.kept)
