use Rattle.std.proofs.Common.{◌≡◌, ◌<◌, ◌++◌, ◌∷◌, [], List, map, refl, sym, ap, subst, ◌∙◌, arith}
use Rattle.std.proofs.Common.{inl}
use Rattle.std.proofs.lemmas.Grind.{common_steps}
use Rattle.std.proofs.lemmas.Result.{IfOk-weaker}
use Rattle.lvl_names.specs.declared.layer.Layer.{Layer}
use Rattle.lvl_cells.specs.Chains.{unmoved}
use Rattle.lvl_cells.specs.Checks.{Settled}
use Rattle.lvl_flat.specs.declared.scope.Scope.{Scope}
use Rattle.lvl_flat.specs.declared.scope.Scope.TheVariants.{Within}
use Rattle.lvl_flat.specs.declared.visit.Visit.{Visit}
use Rattle.lvl_flat.specs.inside.Entering.{begun}
use Rattle.lvl_flat.specs.inside.Passing.{IsForwarded}
use Rattle.lvl_flat.specs.Sheet.{PlainSheet}
use Rattle.lvl_flat.specs.inside.Walking.{IsFlattenedIn, IsWalking, work}
use Rattle.lvl_flat.proofs.Advancing.{walk_begins}
use Rattle.lvl_flat.proofs.Drawing.{layer_of}
use Rattle.lvl_flat.proofs.Ending.{walk_ends, rings_on_empty}
use Rattle.lvl_flat.proofs.Forward.{less_forward, walk_forward}
use Rattle.lvl_flat.proofs.selected.draw_candidates.Goals as goal

pub loop-visit-init : goal.loop-visit-init
loop-visit-init c =
    let s : Settled = c.args.checked.now in
    let scope : Scope = Within c.args.window.now in
    let settled = c.top-top.ensures.checked.settled in
    let empty : List PlainSheet = c.args.empty.items in
    let new : List PlainSheet = c.draw_own.new.sheets.items in
    let walking =
    walk_begins s (map layer_of empty) scope settled.cell empty new settled.sound.linked settled.sorted settled.is
    c.requires.sorted refl (rings_on_empty empty c.requires.empty) c.in_ok-draw_own.ensures in
    let stack : c.push_visit.new.stack.items ≡ begun s.top unmoved ∷ [] =
    c.in_ok-push_visit.ensures
    ∙ (ap (λ xs. xs ++ c.begun.result ∷ []) c.new-stack.ensures.items
    ∙ ap (λ v. v ∷ []) (c.begun.ensures ∙ ap (λ i. begun i unmoved) c.top-top.ensures.value)) in
    subst (IsWalking s (map layer_of empty) scope new) (sym stack) walking

pub advance-requires-clause-walking : goal.advance-requires-clause-walking
advance-requires-clause-walking c =
    let s : Settled = c.args.checked.now in
    let scope : Scope = Within c.args.window.now in
    let list = c.args.candidates.now.references in
    let layers : List Layer = map layer_of c.args.empty.items in
    let sheets : List PlainSheet = c.loop-visit.sheets.items in
    let front : List Visit = c.pop.new.self.items in
    let old : Visit = c.in-Some.visit in
    let new : Visit = c.forwarded-visit.result in
    let before : IsWalking s layers scope sheets (front ++ old ∷ []) =
    subst (IsWalking s layers scope sheets) c.in-Some.ensures.items c.loop-visit.invariant in
    let forward : IsForwarded s.top list old new =
    subst (λ t. IsForwarded t list old new) c.top-top.ensures.value c.forwarded-visit.ensures in
    subst (λ ls. IsWalking s ls scope sheets (front ++ new ∷ [])) (sym c.loop-visit.invariant.layers_are)
    (walk_forward s layers c.args.window.now sheets front old new list c.requires.candidates.references
    c.requires.in_range before forward)

pub loop-visit-smaller : goal.loop-visit-smaller
loop-visit-smaller c =
    let s : Settled = c.args.checked.now in
    let list = c.args.candidates.now.references in
    let front : List Visit = c.pop.new.self.items in
    let old : Visit = c.in-Some.visit in
    let new : Visit = c.forwarded-visit.result in
    let forward : IsForwarded s.top list old new =
    subst (λ t. IsForwarded t list old new) c.top-top.ensures.value c.forwarded-visit.ensures in
    let settled = c.top-top.ensures.checked.settled in
    let no_more = less_forward s front old new list settled.cell settled.is forward in
    let less : work s.cells c.advance.new.stack.items < work s.cells (front ++ new ∷ []) = c.in-Ok.ensures.nearer in
    subst (λ xs. work s.cells c.advance.new.stack.items < work s.cells xs) (sym c.in-Some.ensures.items)
    (omega (arith, less, no_more))

pub returns : goal.returns
returns c =
    let s : Settled = c.args.checked.now in
    let scope : Scope = Within c.args.window.now in
    let layers : List Layer = map layer_of c.args.empty.items in
    let none : c.loop-visit.stack.items ≡ [] = grind (arith, common_steps, c.in_default.ensures) in
    IfOk-weaker c.filled.result _ _ (λ flat is. subst (IsFlattenedIn s layers scope) (sym is)
    (walk_ends s layers scope c.loop-visit.sheets.items (inl c.requires.in_range)
    (subst (IsWalking s layers scope c.loop-visit.sheets.items) none c.loop-visit.invariant))) c.filled.ensures
