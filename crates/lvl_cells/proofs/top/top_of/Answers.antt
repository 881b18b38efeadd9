use Rattle.std.proofs.Common.{◌≡◌, ℕ, List, Option, Some, None, true, get_or, sym, ap, ◌∙◌, subst, arith}
use Rattle.std.specs.List.{slice_get}
use Rattle.std.specs.Option.{option_copied}
use Rattle.std.proofs.lemmas.Bool.{false≢true}
use Rattle.std.proofs.lemmas.Option.{slice_get_within, slice_get-get_or}
use Rattle.lvl_cells.specs.Cells.{names}
use Rattle.lvl_cells.specs.Soundness.{IsTop}
use Rattle.lvl_cells.specs.Resolving.{IsPlaceOf}
use Rattle.lvl_cells.specs.inside.Topping.{HasOtherRoot}
use Rattle.lvl_names.proofs.Elements.{at_contains}
use Rattle.lvl_cells.proofs.Orders.{targets_within, names_long}
use Rattle.lvl_cells.proofs.Roots.{root_within, top_by, two_tops_by}
use Rattle.lvl_cells.proofs.top.top_of.Goals as goal

pub has_other_root-requires : goal.has_other_root-requires
has_other_root-requires c = targets_within c.args.cells.now c.args.targets.now c.requires.targets

pub returns-then-branch-clause-err : goal.returns-then-branch-clause-err
returns-then-branch-clause-err c =
    let order : List ℕ = c.args.order.now in
    let some = c.requires.order.there 0 c.requires.some in
    let first : slice_get order 0 ≡ Some (get_or order 0 0) = slice_get-get_or order 0 0 (omega (arith, some.1)) in (
      ap option_copied c.in_default.is,
      two_tops_by c.args.cells.now c.args.targets.now order (get_or order 0 0) c.requires.linked c.requires.targets
          c.requires.order first (c.in_ok-has_other_root.ensures.0 c.if-branch.true),
    )

pub returns-in_default-clause-ok : goal.returns-in_default-clause-ok
returns-in_default-clause-ok c =
    let order : List ℕ = c.args.order.now in
    let root : ℕ = get_or order 0 0 in
    let some = c.requires.order.there 0 c.requires.some in
    let first : slice_get order 0 ≡ Some root = slice_get-get_or order 0 0 (omega (arith, some.1)) in
    let alone : HasOtherRoot c.args.targets.now root → ⊥ =
    λ h. let yes : c.in_ok-has_other_root.field-0 ≡ true = c.in_ok-has_other_root.ensures.1 h in
    false≢true (sym c.if-branch.false ∙ yes) in
    let none : option_copied c.args.given ≡ None = ap option_copied c.in_default.is in (
      subst (λ (o : Option (List ℕ)). IsTop c.args.cells.now o root) (sym none) (top_by c.args.cells.now
          c.args.targets.now order root c.requires.linked c.requires.targets c.requires.order first alone),
      root_within c.args.cells.now order root c.requires.order first,
    )

pub returns-in-Some-index-clause-ok : goal.returns-in-Some-index-clause-ok
returns-in-Some-index-clause-ok c =
    let all : List (List ℕ) = names c.args.cells.now in
    let index = c.in-Some-index.index in
    let name : List ℕ = c.in-Some._name.now in
    let given : option_copied c.args.given ≡ Some name = ap option_copied c.in-Some.is in
    let places : IsPlaceOf all (Some name) c.args.index =
    subst (λ (o : Option (List ℕ)). IsPlaceOf all o c.args.index) given c.requires.index in
    let at : slice_get all index ≡ Some name = (places index).0 c.in-Some-index.is in (
      subst (λ (o : Option (List ℕ)). IsTop c.args.cells.now o index) (sym given) at,
      omega (arith, slice_get_within all index name at, names_long c.args.cells.now),
    )

pub returns-in-None-clause-err : goal.returns-in-None-clause-err
returns-in-None-clause-err c =
    let all : List (List ℕ) = names c.args.cells.now in
    let name : List ℕ = c.in-Some._name.now in
    let given : option_copied c.args.given ≡ Some name = ap option_copied c.in-Some.is in
    let places : IsPlaceOf all (Some name) c.args.index =
    subst (λ (o : Option (List ℕ)). IsPlaceOf all o c.args.index) given c.requires.index in (
      name,
      given,
      λ h. let at = at_contains all name h in
          let there : c.args.index ≡ Some at.0 = (places at.0).1 at.1 in
          let none : c.args.index ≡ None = c.in-None.is in cc,
    )
