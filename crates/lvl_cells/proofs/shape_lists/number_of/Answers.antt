use Rattle.std.proofs.Common.{IfOk, subst}
use Rattle.lvl_cells.specs.inside.Spans.{HasNumber}
use Rattle.lvl_cells.proofs.Spanned.{goes_on_same}
use Rattle.lvl_cells.proofs.shape_lists.number_of.Goals as goal

pub returns-then-is_single-clause-before : goal.returns-then-is_single-clause-before
returns-then-is_single-clause-before c = goes_on_same c.args.kept.now.items

pub returns-in_err-clone-clause-before : goal.returns-in_err-clone-clause-before
returns-in_err-clone-clause-before c = goes_on_same c.args.kept.now.items

pub returns-clause-number : goal.returns-clause-number
returns-clause-number c =
    subst (λ shifts. IfOk c.number_of_owned.result (λ n. HasNumber c.number_of_owned.new.kept.items n shifts))
    c.in_ok-clone.ensures.cases c.number_of_owned.ensures.number
