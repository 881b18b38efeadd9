use Rattle.std.proofs.Common.{◌≡◌, ℕ, List, All, ap, sym, subst, ◌∙◌, map}
use Rattle.std.specs.Prelude.{flat_map}
use Rattle.std.specs.List.{AllZip}
use Rattle.std.proofs.lemmas.List.Folds.{flat_map-map}
use Rattle.lvl_cells.specs.Cells.{PlainPlacement, reference_to}
use Rattle.oasis_figures.specs.Figures.{Placed}
use Rattle.oasis_library.specs.Names.{IsNamed, IsReference, IsUnnamed, number_in}
use Rattle.oasis_library.specs.declared.placement.Target.{Target}
use Rattle.oasis_library.specs.inside.Kept.{placed_from}
use Rattle.oasis_library.specs.inside.Resolved.{IsNameOf}
use Rattle.oasis_library.proofs.Referring.{number_from, references_are}
use Rattle.oasis_library.proofs.resolve.references_of.Goals as goal

pub returns-in-Some-clause-err : goal.returns-in-Some-clause-err
returns-in-Some-clause-err c = λ given h.
    let targets : List Target = c.in_ok-targets.targets.items in
    let ps : List PlainPlacement = c.in_ok-targets.placements in
    let number : Placed → List ℕ = λ p. number_in p.cell in
    let same : flat_map (number_from targets) ps ≡ flat_map number c.args.placed =
    sym (flat_map-map number (placed_from targets) ps) ∙ ap (flat_map number) c.in_ok-targets.ensures.placed in
    subst (λ ns. IsUnnamed given ns c.in-Some.number) same
    (subst (λ ts. IsUnnamed given (flat_map (number_from ts) ps) c.in-Some.number) c.deref.ensures.value
    (c.in-Some.ensures.some given h))

pub returns-clause-ok : goal.returns-clause-ok
returns-clause-ok c = λ given h.
    let targets : List Target = c.in_ok-targets.targets.items in
    let ps : List PlainPlacement = c.in_ok-targets.placements in
    let named : List (List ℕ) = c.in_ok-named.named.items in
    subst (λ rs. AllZip (IsReference given) c.args.placed rs) (sym c.in_ok-references.ensures)
    (subst (λ qs. AllZip (IsReference given) qs (map (reference_to named) ps)) c.in_ok-targets.ensures.placed
    (references_are given targets named ps
    (subst (λ ts. AllZip (IsNameOf given) ts named) c.deref-2.ensures.value (c.in_ok-named.ensures.named given h))
    c.in_ok-targets.ensures.keys
    (subst (λ ts. All (IsNamed given) (flat_map (number_from ts) ps)) c.deref.ensures.value
    (c.in_default.ensures.none given h))))
