use Rattle.std.proofs.Common.{◌≡◌, ◌≢◌, ◌++◌, [], ℕ, true, false, cond, not, List, All, set, ap, subst, ◌∙◌, arith}
use Rattle.std.proofs.Common.{refl, slice_get, sym, Some}
use Rattle.std.proofs.lemmas.List.{append-nil}
use Rattle.std.proofs.lemmas.Option.{slice_get_within, get_or_from_slice_get}
use Rattle.lvl_names.specs.declared.layer.Layer.{Layer}
use Rattle.lvl_cells.specs.Cells.{Rings}
use Rattle.lvl_names.specs.Layers.{same_layer}
use Rattle.lvl_flat.specs.Sheet.{PlainSheet}
use Rattle.lvl_names.proofs.Layers.{tested_layer}
use Rattle.lvl_flat.specs.Sheets.{AreSorted, rings_on}
use Rattle.lvl_flat.proofs.Cutting.{rings_on-put}
use Rattle.lvl_flat.proofs.Drawing.{layer_of, not_theirs, layers-set}
use Rattle.lvl_flat.proofs.Orders.{rings_where}
use Rattle.lvl_flat.proofs.mapped.append_on.Goals as goal

-- rings added to a sheet are added on its Layer, and on no other
rings_on-set : (sheets : List PlainSheet) (i : ℕ) (s : PlainSheet) (added : Rings) → AreSorted sheets
    → slice_get sheets i ≡ Some s → (layer : Layer)
    → rings_on layer (set sheets i (record { layer = s.layer; rings = s.rings ++ added }))
    ≡ rings_on layer sheets ++ cond (same_layer s.layer layer) added []
rings_on-set sheets i s added sorted at layer =
    rings_on-put sheets i s (s.rings ++ added) sorted at layer
    ∙ elim (same_layer s.layer layer)
    as (λ b. same_layer s.layer layer ≡ b
    → cond b (s.rings ++ added) (rings_on layer sheets) ≡ rings_on layer sheets ++ cond b added []) [
      | true ↦ λ e.
          let here : s.layer ≡ layer = tested_layer s.layer layer (ap not e) in
          ap (λ (rs : Rings). rs ++ added) (sym (rings_where sheets layer i s sorted at here))
      | false ↦ λ e. sym (append-nil (rings_on layer sheets))
    ] refl

abbrev of : Layer → Rings → PlainSheet
of x r = record { layer = x; rings = r }

pub unreachable-requires : goal.unreachable-requires
unreachable-requires c =
    let none : All (λ s. s.layer ≢ c.args.layer) c.args.sheets.now.items =
    subst (λ ss. All (λ s. s.layer ≢ c.args.layer) ss) c.deref.ensures.value c.in_default.ensures.absent in
    not_theirs c.args.sheets.now.items c.args.layer none c.requires.there

pub index_mut-sheet-requires : goal.index_mut-sheet-requires
index_mut-sheet-requires c =
    let inside =
    slice_get_within c.deref.result.now c.in-Some.place c.in-Some.ensures.found.sheet
    c.in-Some.ensures.found.there in
    omega (arith, inside, c.deref.ensures.len)

pub returns-clause-appended : goal.returns-clause-appended
returns-clause-appended c = λ l.
    let found = c.in-Some.ensures.found in
    let items : List PlainSheet = c.args.sheets.now.items in
    let s : PlainSheet = found.sheet in
    let added : Rings = c.args.rings in
    let there : slice_get items c.in-Some.place ≡ Some s =
    subst (λ ss. slice_get ss c.in-Some.place ≡ Some s) c.deref.ensures.value found.there in
    let lent : c.index_mut-sheet.result.now ≡ s =
    c.index_mut-sheet.ensures.value
    ∙ get_or_from_slice_get items c.in-Some.place s c.index_mut-sheet.result.now there in
    let layer : c.sheet.inside.layer ≡ s.layer = ap layer_of (c.sheet.view_is ∙ lent) in
    let rings : c.append.new.rings ≡ s.rings ++ added =
    c.in_ok-append.ensures ∙ ap (λ (u : PlainSheet). u.rings ++ added) (c.sheet.view_is ∙ lent) in
    let new : of c.sheet.inside.layer c.append.new.rings ≡ of s.layer (s.rings ++ added) =
    ap (λ x. of x c.append.new.rings) layer ∙ ap (of s.layer) rings in
    ap (λ n. rings_on l (set items c.in-Some.place n)) new
    ∙ (rings_on-set items c.in-Some.place s added c.requires.sorted there l
    ∙ ap (λ (x : Layer). rings_on l items ++ cond (same_layer x l) added []) found.layer_is)

pub returns-clause-layers_stay : goal.returns-clause-layers_stay
returns-clause-layers_stay c =
    let found = c.in-Some.ensures.found in
    let items : List PlainSheet = c.args.sheets.now.items in
    let s : PlainSheet = found.sheet in
    let there : slice_get items c.in-Some.place ≡ Some s =
    subst (λ ss. slice_get ss c.in-Some.place ≡ Some s) c.deref.ensures.value found.there in
    let lent : c.index_mut-sheet.result.now ≡ s =
    c.index_mut-sheet.ensures.value
    ∙ get_or_from_slice_get items c.in-Some.place s c.index_mut-sheet.result.now there in
    layers-set items c.in-Some.place s (of c.sheet.inside.layer c.append.new.rings) there
    (ap layer_of (c.sheet.view_is ∙ lent))
