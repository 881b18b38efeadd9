use Rattle.std.proofs.Common.{◌++◌, ◌∷◌, ◌<◌, [], List, ℕ, length, map, sym, subst, ap, ◌∙◌}
use Rattle.std.proofs.lemmas.List.Elements.{All-push}
use Rattle.lvl_cells.specs.Cells.{PlainPlacement, reference_to}
use Rattle.lvl_cells.proofs.Placed.{HaveNames, names_still, one_more_reference, references_same}
use Rattle.lvl_cells.proofs.Spanned.{always_err}
use Rattle.lvl_cells.proofs.reference_lists.ReferenceLists.push.Goals.{In_ok-push}
use Rattle.lvl_cells.proofs.reference_lists.ReferenceLists.push.Goals as goal

pub returns-in_err-key-clause-kept : goal.returns-in_err-key-clause-kept
returns-in_err-key-clause-kept c =
    always_err c.from_residual.result
    (references_same _ _ c.self.inside.placements c.index_of_name.ensures.before c.self.invariant ∙ c.self.view_is)

pub returns-in_err-push-clause-kept : goal.returns-in_err-push-clause-kept
returns-in_err-push-clause-kept c =
    let names : List (List ℕ) = c.index_of_name.new.names.items in
    always_err c.from_residual-in_err-push.result
    (ap (map (reference_to names)) c.in_err-push.ensures.kept
    ∙ (references_same _ names c.self.inside.placements c.index_of_name.ensures.before c.self.invariant
    ∙ c.self.view_is))

abbrev added : In_ok-push → PlainPlacement
added c = record {
  key = c.in_ok-key.key;
  flip = c.reference.inside.flip;
  turn = c.reference.inside.turn;
  at = c.reference.inside.at;
  shifts = c.reference.inside.shifts;
}

pub invariant_of-self-2 : goal.invariant_of-self-2
invariant_of-self-2 c =
    let names : List (List ℕ) = c.index_of_name.new.names.items in
    subst (HaveNames names) (sym c.in_ok-push.ensures.added)
    (All-push (λ (p : PlainPlacement). p.key < length names) c.self.inside.placements (added c)
    (names_still _ names c.self.inside.placements c.index_of_name.ensures.before c.self.invariant)
    c.in_ok-key.ensures.index.within)

pub returns-clause-added : goal.returns-clause-added
returns-clause-added c =
    let names : List (List ℕ) = c.index_of_name.new.names.items in
    ap (map (reference_to names)) c.in_ok-push.ensures.added
    ∙ (one_more_reference _ names c.self.inside.placements (added c) c.reference.inside.cell c.args.self.now
    c.index_of_name.ensures.before c.self.invariant c.self.view_is c.in_ok-key.ensures.index
    ∙ ap (λ r. c.args.self.now ++ r ∷ []) c.reference.view_is)
