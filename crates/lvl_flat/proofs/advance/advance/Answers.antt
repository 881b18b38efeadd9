use Rattle.std.proofs.Common.{◌≡◌, ◌<◌, ◌*◌, ◌^◌, ◌++◌, ◌∷◌, [], List}
use Rattle.std.proofs.Common.{length, map, slice_get, Some, sym, ap, subst, ◌∙◌}
use Rattle.std.proofs.Common.{arith, refl}
use Rattle.std.proofs.lemmas.Option.{slice_get_within, slice_get_read}
use Rattle.std.proofs.lemmas.Result.{err_from_is_err_and}
use Rattle.std.proofs.lemmas.List.Elements.{Contains-push}
use Rattle.lvl_cells.specs.Cells.{PlainCell, Rings}
use Rattle.lvl_cells.specs.Checks.{Settled}
use Rattle.lvl_grid.specs.declared.point.Window.{Window}
use Rattle.lvl_names.specs.declared.layer.Layer.{Layer}
use Rattle.lvl_flat.specs.declared.scope.Scope.TheVariants.{Within}
use Rattle.lvl_flat.specs.declared.visit.Visit.{Visit}
use Rattle.lvl_flat.specs.Sheet.{PlainSheet}
use Rattle.lvl_flat.specs.inside.Entering.{begun, IsDrawn, IsEnterFault}
use Rattle.lvl_flat.specs.Flattened.{ReportsName}
use Rattle.lvl_flat.specs.inside.Steps.{IsInto, IsOut}
use Rattle.lvl_flat.specs.inside.Walking.{IsWalking, work}
use Rattle.lvl_flat.proofs.Drawing.{layer_of}
use Rattle.lvl_flat.proofs.Going.{less_into, less_left_out, less_missed, less_passed}
use Rattle.lvl_flat.proofs.Advancing.{walk_into}
use Rattle.lvl_flat.proofs.UnderWay.{walk_done, walk_left_out, walk_missed, walk_passed, walk_past}
use Rattle.lvl_flat.proofs.Reporting.{out_by_shift, out_by_vertex, names_out, entered_out}
use Rattle.lvl_refusal.specs.Refused.{Says}
use Rattle.lvl_refusal.proofs.Saying.{Says-map}
use Rattle.lvl_flat.proofs.advance.advance.Goals as goal

pub next_step-requires : goal.next_step-requires
next_step-requires c =
    let old = c.requires.walking.visits c.args.visit (Contains-push c.args.stack.now.items c.args.visit) in
    slice_get_within c.args.checked.now.cells c.args.visit.cell old.cell old.there

pub push_rest-requires : goal.push_rest-requires
push_rest-requires c =
    let s : Settled = c.args.checked.now in
    let old = c.requires.walking.visits c.args.visit (Contains-push c.args.stack.now.items c.args.visit) in
    let into : IsInto s.cells c.args.visit c.in-Into.index c.in-Into.map c.in-Into.rest = c.in-Into.ensures in
    omega (arith, slice_get_within s.cells c.args.visit.cell old.cell old.there, into.cell_is)

pub draw_cell-requires-clause-there : goal.draw_cell-requires-clause-there
draw_cell-requires-clause-there c =
    let into : IsInto c.args.checked.now.cells c.args.visit c.in-Into.index c.in-Into.map c.in-Into.rest =
    c.in-Into.ensures in
    let inside = slice_get_within c.args.checked.now.cells c.in-Into.index into.next into.there in
    omega (arith, inside, ap length c.cells-cells.ensures.value)

pub bounds-cells-index : goal.bounds-cells-index
bounds-cells-index c =
    let out : IsOut c.args.checked.now.cells c.args.visit c.in-Out.index = c.in-Out.ensures in
    let inside = slice_get_within c.args.checked.now.cells c.in-Out.index out.next out.there in
    omega (arith, inside, ap length c.cells-cells.ensures.value)

pub offset_bounds-cells-index : goal.offset_bounds-cells-index
offset_bounds-cells-index c =
    let out : IsOut c.args.checked.now.cells c.args.visit c.in-Out.index = c.in-Out.ensures in
    let inside = slice_get_within c.args.checked.now.cells c.in-Out.index out.next out.there in
    let long : (length c.cells-cells.result.now < 2 ^ 64) × (length c.cells-cells.result.now * 56 < 2 ^ 63) =
    c.cells-cells.type_inv in
    let within : c.in-Out.index < length c.cells-cells.result.now =
    omega (arith, inside, ap length c.cells-cells.ensures.value) in
    omega (arith, long.1, within)

pub returns-in-Done-clause-walking : goal.returns-in-Done-clause-walking
returns-in-Done-clause-walking c =
    walk_done c.args.checked.now (map layer_of c.args.sheets.now.items) c.args.scope.now c.args.sheets.now.items
    c.args.stack.now.items c.args.visit
    c.requires.walking c.in-Done.ensures

pub returns-in_ok-push_visit-in-Past-clause-walking : goal.returns-in_ok-push_visit-in-Past-clause-walking
returns-in_ok-push_visit-in-Past-clause-walking c =
    let next =
    walk_past c.args.checked.now (map layer_of c.args.sheets.now.items) c.args.scope.now c.args.sheets.now.items
    c.args.stack.now.items c.args.visit
    c.in-Past.rest c.requires.walking c.in-Past.ensures in
    subst (IsWalking c.args.checked.now (map layer_of c.args.sheets.now.items) c.args.scope.now
    c.args.sheets.now.items)
    (sym c.in_ok-push_visit-in-Past.ensures) next

pub pass_by-further-requires-clause-cell : goal.pass_by-further-requires-clause-cell
pass_by-further-requires-clause-cell c =
    let s : Settled = c.args.checked.now in
    let old = c.requires.walking.visits c.args.visit (Contains-push c.args.stack.now.items c.args.visit) in
    let into : IsInto s.cells c.args.visit c.in-Into.index c.in-Into.map c.in-Into.rest = c.in-Into.ensures in
    omega (arith, slice_get_within s.cells c.args.visit.cell old.cell old.there, into.cell_is)

pub returns-then-miss-clause-walking : goal.returns-then-miss-clause-walking
returns-then-miss-clause-walking c =
    let s : Settled = c.args.checked.now in
    let front : List Visit = c.args.stack.now.items in
    let sheets : List PlainSheet = c.args.sheets.now.items in
    let layers : List Layer = map layer_of sheets in
    let window : Window = c.in-Within.window in
    let before : IsWalking s layers (Within window) sheets (front ++ c.args.visit ∷ []) =
    subst (λ scope. IsWalking s layers scope sheets (front ++ c.args.visit ∷ [])) c.in-Within.is c.requires.walking in
    let next =
    walk_missed s c.args.boxes.now layers window sheets front c.args.visit c.in-Into.index c.in-Into.map c.in-Into.rest
    c.requires.boxes before c.in-Into.ensures (c.if-miss.ensures refl) in
    let passed =
    walk_passed s c.args.boxes.now layers window sheets front c.in-Into.rest c.pass_by-further.result c.requires.boxes
    next c.pass_by-further.ensures in
    subst (IsWalking s layers c.args.scope.now sheets) (sym c.in_ok-push_visit-in-Into.ensures)
    (subst (λ scope. IsWalking s layers scope sheets (front ++ c.pass_by-further.result ∷ [])) (sym c.in-Within.is)
    passed)

pub returns-then-miss-clause-nearer : goal.returns-then-miss-clause-nearer
returns-then-miss-clause-nearer c =
    let s : Settled = c.args.checked.now in
    let front : List Visit = c.args.stack.now.items in
    let sound = c.cells-cells.ensures.checked.settled in
    let less =
    less_missed s front c.args.visit c.in-Into.index c.in-Into.map c.in-Into.rest sound.sound.linked sound.sorted
    c.in-Into.ensures in
    let no_more =
    less_passed s c.args.boxes.now c.in-Within.window front c.in-Into.rest c.pass_by-further.result sound.sound.linked
    sound.sorted c.pass_by-further.ensures in
    subst (λ xs. work s.cells xs < work s.cells (front ++ c.args.visit ∷ [])) (sym c.in_ok-push_visit-in-Into.ensures)
    (omega (arith, less, no_more))

pub returns-in_err-draw_cell-in-Into-clause-err : goal.returns-in_err-draw_cell-in-Into-clause-err
returns-in_err-draw_cell-in-Into-clause-err c =
    let s : Settled = c.args.checked.now in
    let into : IsInto s.cells c.args.visit c.in-Into.index c.in-Into.map c.in-Into.rest = c.in-Into.ensures in
    let reported
    : Says c.in_err-draw_cell-in-Into.field-0.0 (IsEnterFault s.cells c.in-Into.index c.in-Into.map) =
    subst (λ cs. Says c.in_err-draw_cell-in-Into.field-0.0 (IsEnterFault cs c.in-Into.index c.in-Into.map))
    c.cells-cells.ensures.value c.in_err-draw_cell-in-Into.ensures.err in
    let p =
    err_from_is_err_and c.from_residual-in_err-draw_cell-in-Into.result
    c.from_residual-in_err-draw_cell-in-Into.ensures.1 in
    rw (p.1, p.2) (Says-map (IsEnterFault s.cells c.in-Into.index c.in-Into.map) _
    c.in_err-draw_cell-in-Into.field-0.0
    (entered_out s c.in-Into.index c.in-Into.map (λ name out. out_by_vertex s
    (map layer_of c.args.sheets.now.items) c.args.scope.now c.args.sheets.now.items c.args.stack.now.items c.args.visit
    c.in-Into.index c.in-Into.map c.in-Into.rest name c.requires.walking into out)) reported)

pub returns-in_ok-push_visit-in-Into-2-clause-walking : goal.returns-in_ok-push_visit-in-Into-2-clause-walking
returns-in_ok-push_visit-in-Into-2-clause-walking c =
    let s : Settled = c.args.checked.now in
    let front : List Visit = c.args.stack.now.items in
    let into : IsInto s.cells c.args.visit c.in-Into.index c.in-Into.map c.in-Into.rest = c.in-Into.ensures in
    let drawn : IsDrawn s.cells c.in-Into.index c.in-Into.map c.args.scope.now c.args.sheets.now.items
    c.draw_cell.new.sheets.items =
    subst
    (λ cs. IsDrawn cs c.in-Into.index c.in-Into.map c.args.scope.now c.args.sheets.now.items
    c.draw_cell.new.sheets.items) c.cells-cells.ensures.value c.in_ok-draw_cell-in-Into.ensures.drawn in
    let sound = c.cells-cells.ensures.checked.settled in
    let next =
    walk_into s (map layer_of c.args.sheets.now.items) c.args.scope.now c.args.sheets.now.items
    c.draw_cell.new.sheets.items front c.args.visit c.in-Into.index c.in-Into.map c.in-Into.rest sound.sound.linked
    sound.sorted c.requires.walking into drawn in
    let kept =
    walk_left_out s (map layer_of c.args.sheets.now.items) c.args.scope.now c.draw_cell.new.sheets.items front
    c.push_rest.new.stack.items c.in-Into.rest (begun c.in-Into.index c.in-Into.map) next
    c.in_ok-push_rest-in-Into.ensures in
    subst (IsWalking s (map layer_of c.args.sheets.now.items) c.args.scope.now
    c.draw_cell.new.sheets.items)
    (sym (c.in_ok-push_visit-in-Into-2.ensures ∙ ap (λ v. c.push_rest.new.stack.items ++ v ∷ []) c.begun.ensures)) kept

pub returns-in_ok-push_visit-in-Into-2-clause-nearer : goal.returns-in_ok-push_visit-in-Into-2-clause-nearer
returns-in_ok-push_visit-in-Into-2-clause-nearer c =
    let s : Settled = c.args.checked.now in
    let front : List Visit = c.args.stack.now.items in
    let into : IsInto s.cells c.args.visit c.in-Into.index c.in-Into.map c.in-Into.rest = c.in-Into.ensures in
    let sound = c.cells-cells.ensures.checked.settled in
    let less =
    less_into s front c.args.visit c.in-Into.index c.in-Into.map c.in-Into.rest sound.sound.linked sound.sorted
    into in
    let no_more =
    less_left_out s.cells front c.push_rest.new.stack.items c.in-Into.rest (begun c.in-Into.index c.in-Into.map)
    c.in_ok-push_rest-in-Into.ensures in
    subst (λ xs. work s.cells xs < work s.cells (front ++ c.args.visit ∷ []))
    (sym (c.in_ok-push_visit-in-Into-2.ensures ∙ ap (λ v. c.push_rest.new.stack.items ++ v ∷ []) c.begun.ensures))
    (omega (arith, less, no_more))

pub returns-in-Out-clause-err : goal.returns-in-Out-clause-err
returns-in-Out-clause-err c =
    let s : Settled = c.args.checked.now in
    let out : IsOut s.cells c.args.visit c.in-Out.index = c.in-Out.ensures in
    let cell : PlainCell Rings = c.index-cells-index.result in
    let inside : c.in-Out.index < length c.cells-cells.result.now =
    omega (
      arith,
      slice_get_within s.cells c.in-Out.index out.next out.there,
      ap length c.cells-cells.ensures.value,
    ) in
    let listed : slice_get c.cells-cells.result.now c.in-Out.index ≡ Some cell =
    slice_get_read c.cells-cells.result.now (length c.cells-cells.result.now) c.in-Out.index cell refl inside
    c.index-cells-index.is in
    let both : Some cell ≡ Some out.next =
    sym (subst (λ cs. slice_get cs c.in-Out.index ≡ Some cell) c.cells-cells.ensures.value listed) ∙ out.there in
    let one : cell ≡ out.next = cc in
    let name : c.as_bytes.result.now ≡ out.next.name =
    c.as_bytes.ensures ∙ ap (λ (b : PlainCell Rings). b.name) (c.cell.view_is ∙ one) in
    Says-map (ReportsName out.next.name) _ c.out_of_range.result
    (λ f reports. names_out s out.next.name f reports
    (out_by_shift s (map layer_of c.args.sheets.now.items) c.args.scope.now c.args.sheets.now.items
    c.args.stack.now.items c.args.visit c.in-Out.index c.requires.walking out))
    (subst (λ n. Says c.out_of_range.result (ReportsName n)) name c.out_of_range.ensures)
