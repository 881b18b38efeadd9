use Rattle.std.proofs.Common.{[], ◌∷◌, sym, subst, arith}
use Rattle.lvl_cells.specs.inside.Spans.{IsPrefixOf}
use Rattle.lvl_cells.proofs.Spanned.{goes_on_same, goes_on_more}
use Rattle.lvl_cells.proofs.Placed.{at_last}
use Rattle.lvl_cells.proofs.reference_lists.index_of_name.Goals as goal

pub returns-in-Some-clause-before : goal.returns-in-Some-clause-before
returns-in-Some-clause-before c = goes_on_same c.args.names.now.items

pub returns-in_err-push_lean-clause-before : goal.returns-in_err-push_lean-clause-before
returns-in_err-push_lean-clause-before c =
    subst (IsPrefixOf c.args.names.now.items) (sym c.in_err-push_lean.ensures.kept)
    (goes_on_same c.args.names.now.items)

pub returns-clause-before : goal.returns-clause-before
returns-clause-before c =
    subst (IsPrefixOf c.args.names.now.items) (sym c.in_ok-push_lean.ensures.added)
    (goes_on_more c.args.names.now.items (c.args.name ∷ []))

pub returns-clause-index : goal.returns-clause-index
returns-clause-index c =
    at_last c.args.names.now.items c.push_lean.new.list.items c.args.name c.len-index.result
    c.in_ok-push_lean.ensures.added (omega (arith, c.len-index.ensures, c.args.names.now.ok.0))
