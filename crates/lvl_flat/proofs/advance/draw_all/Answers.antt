use Rattle.std.proofs.Common.{◌≡◌, ◌++◌, ◌∷◌, [], List, map, sym, ap, subst, ◌∙◌, arith, refl}
use Rattle.std.proofs.lemmas.Grind.{common_steps}
use Rattle.std.proofs.lemmas.Result.{err_from_is_err_and}
use Rattle.lvl_names.specs.declared.layer.Layer.{Layer}
use Rattle.lvl_cells.specs.Chains.{unmoved}
use Rattle.lvl_cells.specs.Checks.{Settled}
use Rattle.lvl_flat.specs.declared.scope.Scope.{Scope}
use Rattle.lvl_flat.specs.inside.Entering.{begun, IsDrawn, IsEnterFault}
use Rattle.lvl_flat.specs.Sheet.{PlainSheet}
use Rattle.lvl_flat.specs.inside.Walking.{IsFlattenedIn, IsWalking}
use Rattle.lvl_flat.proofs.Advancing.{walk_begins}
use Rattle.lvl_flat.proofs.Drawing.{layer_of}
use Rattle.lvl_flat.proofs.Ending.{walk_ends, rings_on_empty}
use Rattle.lvl_flat.proofs.Reporting.{entered_out, top_out}
use Rattle.lvl_refusal.specs.Refused.{Says}
use Rattle.lvl_refusal.proofs.Saying.{Says-map}
use Rattle.lvl_flat.proofs.advance.draw_all.Goals as goal

pub returns-in_err-draw_cell-clause-err : goal.returns-in_err-draw_cell-clause-err
returns-in_err-draw_cell-clause-err c =
    let s : Settled = c.args.checked.now in
    let settled = c.top-top.ensures.checked.settled in
    let fault = c.in_err-draw_cell.field-0.0 in
    let at_top : Says fault (IsEnterFault c.cells.result.now s.top unmoved) =
    subst (λ i. Says fault (IsEnterFault c.cells.result.now i unmoved)) c.top-top.ensures.value
    c.in_err-draw_cell.ensures.err in
    let reported : Says fault (IsEnterFault s.cells s.top unmoved) =
    subst (λ cs. Says fault (IsEnterFault cs s.top unmoved)) c.cells.ensures.value at_top in
    let p = err_from_is_err_and c.from_residual.result
    c.from_residual.ensures.1 in
    rw (p.1, p.2) (Says-map (IsEnterFault s.cells s.top unmoved) _ fault
    (entered_out s s.top unmoved (λ name out. top_out s settled.cell name settled.is out)) reported)

pub loop-visit-init : goal.loop-visit-init
loop-visit-init c =
    let s : Settled = c.args.checked.now in
    let scope : Scope = c.args.scope.now in
    let settled = c.top-top.ensures.checked.settled in
    let empty : List PlainSheet = c.args.empty.items in
    let new : List PlainSheet = c.draw_cell.new.sheets.items in
    let at_top : IsDrawn c.cells.result.now s.top unmoved scope empty new =
    subst (λ i. IsDrawn c.cells.result.now i unmoved scope empty new) c.top-top.ensures.value
    c.in_ok-draw_cell.ensures.drawn in
    let drawn : IsDrawn s.cells s.top unmoved scope empty new =
    subst (λ cs. IsDrawn cs s.top unmoved scope empty new) c.cells.ensures.value at_top in
    let walking =
    walk_begins s (map layer_of empty) scope settled.cell empty new settled.sound.linked settled.sorted settled.is
    c.requires.sorted refl (rings_on_empty empty c.requires.empty) drawn in
    let stack : c.push_visit.new.stack.items ≡ begun s.top unmoved ∷ [] =
    c.in_ok-push_visit.ensures
    ∙ (ap (λ xs. xs ++ c.begun.result ∷ []) c.new-stack.ensures.items
    ∙ ap (λ v. v ∷ []) (c.begun.ensures ∙ ap (λ i. begun i unmoved) c.top-top.ensures.value)) in
    subst (IsWalking s (map layer_of empty) scope new) (sym stack) walking

pub advance-requires-clause-walking : goal.advance-requires-clause-walking
advance-requires-clause-walking c =
    let s : Settled = c.args.checked.now in
    let scope : Scope = c.args.scope.now in
    let sheets : List PlainSheet = c.loop-visit.sheets.items in
    let stack = c.pop.new.self.items ++ c.in-Some.visit ∷ [] in
    subst (λ ls. IsWalking s ls scope sheets stack) (sym c.loop-visit.invariant.layers_are)
    (subst (IsWalking s (map layer_of c.args.empty.items) scope sheets) c.in-Some.ensures.items
    c.loop-visit.invariant)

pub loop-visit-preserved : goal.loop-visit-preserved
loop-visit-preserved c =
    subst
    (λ ls. IsWalking c.args.checked.now ls c.args.scope.now c.advance.new.sheets.items c.advance.new.stack.items)
    c.loop-visit.invariant.layers_are c.in_ok-advance.ensures.walking

pub returns-clause-ok : goal.returns-clause-ok
returns-clause-ok c =
    let s : Settled = c.args.checked.now in
    let layers : List Layer = map layer_of c.args.empty.items in
    let none : c.loop-visit.stack.items ≡ [] = grind (arith, common_steps, c.in_default.ensures) in
    subst (IsFlattenedIn s layers c.args.scope.now) (sym c.in_ok-filled.ensures)
    (walk_ends s layers c.args.scope.now c.loop-visit.sheets.items c.requires.fits
    (subst (IsWalking s layers c.args.scope.now c.loop-visit.sheets.items) none c.loop-visit.invariant))
