use Rattle.std.proofs.Common.{[], ◌∷◌, sym, subst, arith}
use Rattle.std.proofs.lemmas.Result.{IfOk-weaker}
use Rattle.lvl_cells.specs.inside.Spans.{IsPrefixOf, HasNumber}
use Rattle.lvl_cells.proofs.Spanned.{goes_on_same, goes_on_more, last_number}
use Rattle.lvl_cells.proofs.shape_lists.number_of_owned.Goals as goal

pub returns-then-is_single-clause-before : goal.returns-then-is_single-clause-before
returns-then-is_single-clause-before c = goes_on_same c.args.kept.now.items

pub returns-then-is_same_lattice-clause-before : goal.returns-then-is_same_lattice-clause-before
returns-then-is_same_lattice-clause-before c = goes_on_same c.args.kept.now.items

pub returns-in_err-push_lean-clause-before : goal.returns-in_err-push_lean-clause-before
returns-in_err-push_lean-clause-before c =
    subst (IsPrefixOf c.args.kept.now.items) (sym c.in_err-push_lean.ensures.kept) (goes_on_same c.args.kept.now.items)

pub returns-clause-before : goal.returns-clause-before
returns-clause-before c =
    subst (IsPrefixOf c.args.kept.now.items) (sym c.in_ok-push_lean.ensures.added)
    (goes_on_more c.args.kept.now.items (c.args.shifts ∷ []))

pub returns-clause-number : goal.returns-clause-number
returns-clause-number c =
    IfOk-weaker c.kept_count-2.result _ (λ n. HasNumber c.push_lean.new.list.items n c.args.shifts)
    (λ n is. last_number c.args.kept.now.items c.push_lean.new.list.items c.args.shifts n
    c.in_ok-push_lean.ensures.added (omega (arith, is.0, c.len-2.ensures))) c.kept_count-2.ensures
