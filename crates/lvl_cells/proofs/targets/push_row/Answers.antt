use Rattle.std.proofs.Common.{◌≡◌, ◌≤◌, ℕ, List, None, Some, map, length, sym, ap}
use Rattle.std.proofs.Common.{◌∙◌, subst}
use Rattle.std.proofs.Common.{arith}
use Rattle.std.specs.List.{slice_get}
use Rattle.std.proofs.lemmas.Option.{get_or_from_slice_get, slice_get_within}
use Rattle.lvl_cells.specs.Cells.{PlainCell, PlainReference, names, Rings}
use Rattle.lvl_cells.specs.Resolving.{place_in_index}
use Rattle.lvl_cells.specs.inside.Targets.{HasTargets, IsFirstUnknown}
use Rattle.lvl_cells.proofs.NamedTargets.{has_none, has_more, first_unknown, take_past}
use Rattle.lvl_cells.proofs.targets.push_row.Goals as goal

pub loop-j-init : goal.loop-j-init
loop-j-init c = has_none (names c.args.cells.now) c.args.cell.now.references c.args.runs.now.items

pub returns-in_default-clause-err : goal.returns-in_default-clause-err
returns-in_default-clause-err c =
    let r : PlainReference = c.reference-reference.result in
    let j = c.loop-j.j in
    let refs : List PlainReference = c.args.cell.now.references in
    let all : List (List ℕ) = names c.args.cells.now in
    let asked : PlainReference → List ℕ = λ q. q.cell in
    let named : c.cell-name.result.now ≡ r.cell = c.cell-name.ensures in
    let none : None ≡ place_in_index c.args.index.now r.cell =
    c.in_default.ensures.value ∙ ap (place_in_index c.args.index.now) named in
    let same : c.cell.inside.references ≡ refs = ap (λ (x : PlainCell Rings). x.references) c.cell.view_is in
    let at : slice_get refs j ≡ Some r =
    sym (ap (λ (rs : List PlainReference). slice_get rs j) same) ∙ c.reference-reference.ensures in
    let it =
    first_unknown (place_in_index c.args.index.now) all refs j r c.loop-j.invariant.targets c.requires
    (slice_get_within refs j r at) (sym (get_or_from_slice_get refs j r r at)) none c.loop-j.invariant.are in (
      c.in_ok-from.ensures.items ∙ (c.as_bytes.ensures ∙ ap (λ (x : PlainCell Rings). x.name) c.cell.view_is),
      subst (IsFirstUnknown all (map asked refs)) (sym (c.in_ok-missing.ensures.items ∙ named)) it,
    )

pub loop-j-preserved : goal.loop-j-preserved
loop-j-preserved c =
    let r : PlainReference = c.reference-reference.result in
    let j = c.loop-j.j in
    let refs : List PlainReference = c.args.cell.now.references in
    let all : List (List ℕ) = names c.args.cells.now in
    let named : c.cell-name.result.now ≡ r.cell = c.cell-name.ensures in
    let found : slice_get all c.in-Some.target.now ≡ Some r.cell =
    (c.requires r.cell c.in-Some.target.now).0 (sym (c.in-Some.ensures.value
    ∙ ap (place_in_index c.args.index.now) named)) in
    let same : c.cell.inside.references ≡ refs = ap (λ (x : PlainCell Rings). x.references) c.cell.view_is in
    let at : slice_get refs j ≡ Some r =
    sym (ap (λ (rs : List PlainReference). slice_get rs j) same) ∙ c.reference-reference.ensures in
    has_more all refs j r c.in-Some.target.now c.args.runs.now.items c.loop-j.runs.items c.push_target.new.runs.items
    (slice_get_within refs j r at) (sym (get_or_from_slice_get refs j r r at)) found
    (λ front targets long count row.
    c.in_ok-push_target.ensures front targets
    (omega (arith, long, c.len-begin.ensures, c.args.runs.now.ok.0)) count row)
    c.loop-j.invariant

pub returns-clause-ok : goal.returns-clause-ok
returns-clause-ok c =
    let refs : List PlainReference = c.args.cell.now.references in
    let same : c.cell.inside.references ≡ refs = ap (λ (x : PlainCell Rings). x.references) c.cell.view_is in
    let all : length refs ≤ c.loop-j.j = omega (arith, c.loop-j-test.false, c.len-j-end.ensures, ap length same) in
    subst (λ (l : List PlainReference). HasTargets (names c.args.cells.now) l c.args.runs.now.items c.loop-j.runs.items)
    (take_past refs c.loop-j.j all) c.loop-j.invariant
