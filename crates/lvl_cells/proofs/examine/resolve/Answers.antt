use Rattle.std.proofs.Common.{◌≡◌, ℕ, List, Option, None, Some, sym, ap, ◌∙◌, subst}
use Rattle.std.specs.Option.{option_copied}
use Rattle.lvl_cells.specs.Cells.{names}
use Rattle.lvl_cells.specs.Resolving.{IsPlaceOf, place_in_index}
use Rattle.lvl_cells.proofs.Examining.{linked_by}
use Rattle.lvl_cells.proofs.examine.resolve.Goals as goal

pub returns-in_default-clause-linked : goal.returns-in_default-clause-linked
returns-in_default-clause-linked c =
    linked_by c.args.cells.now c.in_ok-targets.targets c.in_ok-index.ensures.distinct c.in_ok-targets.ensures.ok

pub returns-in-Some-get-clause-linked : goal.returns-in-Some-get-clause-linked
returns-in-Some-get-clause-linked c =
    linked_by c.args.cells.now c.in_ok-targets.targets c.in_ok-index.ensures.distinct c.in_ok-targets.ensures.ok

pub returns-clause-linked : goal.returns-clause-linked
returns-clause-linked c =
    linked_by c.args.cells.now c.in_ok-targets.targets c.in_ok-index.ensures.distinct c.in_ok-targets.ensures.ok

pub returns-in-Some-get-clause-index : goal.returns-in-Some-get-clause-index
returns-in-Some-get-clause-index c =
    let all : List (List ℕ) = names c.args.cells.now in
    let name : List ℕ = c.in-Some.name.now in
    let given : option_copied c.args.given ≡ Some name = ap option_copied c.in-Some.is in
    let there : Some c.in-Some-get.index.now ≡ place_in_index c.in_ok-index.index name = c.in-Some-get.ensures.value in
    subst (λ (o : Option (List ℕ)). IsPlaceOf all o (Some c.in-Some-get.index.now)) (sym given)
    (λ k. (
      λ e. (c.in_ok-index.ensures.index name k).0 (sym there ∙ e),
      λ e. there ∙ (c.in_ok-index.ensures.index name k).1 e,
    ))

pub returns-clause-index : goal.returns-clause-index
returns-clause-index c =
    let all : List (List ℕ) = names c.args.cells.now in
    let name : List ℕ = c.in-Some.name.now in
    let given : option_copied c.args.given ≡ Some name = ap option_copied c.in-Some.is in
    let none : None ≡ place_in_index c.in_ok-index.index name = c.in-None.ensures.value in
    subst (λ (o : Option (List ℕ)). IsPlaceOf all o None) (sym given)
    (λ k. (
      λ e. (c.in_ok-index.ensures.index name k).0 (sym none ∙ e),
      λ e. none ∙ (c.in_ok-index.ensures.index name k).1 e,
    ))
