use Rattle.std.proofs.Common.{refl, subst}
use Rattle.lvl_changed.specs.inside.Areas.{IsIn}
use Rattle.lvl_changed.proofs.cells.extent_of.Goals as goal

pub returns : goal.returns
returns c = λ l s covers.
    subst (λ k. IsIn c.hold_cell.new.self k s) (rw c.whole-whole.ensures.no_pairs refl)
    (c.in_ok-hold_cell.ensures.held l s covers)
