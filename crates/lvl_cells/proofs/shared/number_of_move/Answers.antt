use Rattle.std.proofs.Common.{[], ◌∷◌, sym, subst, arith}
use Rattle.std.proofs.lemmas.Result.{IfOk-weaker}
use Rattle.lvl_cells.specs.inside.Spans.{IsPrefixOf, HasMove}
use Rattle.lvl_cells.proofs.Spanned.{goes_on_same, goes_on_more, last_move}
use Rattle.lvl_cells.proofs.shared.number_of_move.Goals as goal

pub returns-then-eq-clause-before : goal.returns-then-eq-clause-before
returns-then-eq-clause-before c = goes_on_same c.args.moves.now.items

pub returns-then-eq-2-clause-before : goal.returns-then-eq-2-clause-before
returns-then-eq-2-clause-before c = goes_on_same c.args.moves.now.items

pub returns-in_err-push_lean-clause-before : goal.returns-in_err-push_lean-clause-before
returns-in_err-push_lean-clause-before c =
    subst (IsPrefixOf c.args.moves.now.items) (sym c.in_err-push_lean.ensures.kept)
    (goes_on_same c.args.moves.now.items)

pub returns-clause-before : goal.returns-clause-before
returns-clause-before c =
    subst (IsPrefixOf c.args.moves.now.items) (sym c.in_ok-push_lean.ensures.added)
    (goes_on_more c.args.moves.now.items (c.args.by ∷ []))

pub returns-clause-number : goal.returns-clause-number
returns-clause-number c =
    IfOk-weaker c.kept_count-2.result _ (λ n. HasMove c.push_lean.new.list.items n c.args.by)
    (λ n is. last_move c.args.moves.now.items c.push_lean.new.list.items c.args.by n c.in_ok-push_lean.ensures.added
    (omega (arith, is.0, c.len-2.ensures))) c.kept_count-2.ensures
