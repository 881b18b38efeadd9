use Rattle.std.proofs.Common.{◌≡◌, ◌↔◌, ◌++◌, ◌∷◌, [], List, map, cond, Contains, sym, ap, subst, ◌∙◌, append_assoc}
use Rattle.std.proofs.lemmas.List.{append-nil, nil_from_length}
use Rattle.std.proofs.lemmas.Result.{IfOk-weaker}
use Rattle.lvl_grid.specs.Winding.{SomeCovers}
use Rattle.lvl_names.specs.declared.layer.Layer.{Layer}
use Rattle.lvl_cells.specs.Cells.{Rings}
use Rattle.lvl_names.specs.Layers.{same_layer}
use Rattle.lvl_view.specs.declared.map.LayerPair.{LayerPair}
use Rattle.lvl_view.specs.Views.{target_of}
use Rattle.lvl_flat.specs.Mapped.{mapped_on}
use Rattle.lvl_view.specs.Moved.{IsMoved}
use Rattle.lvl_flat.specs.Sheet.{PlainSheet}
use Rattle.lvl_flat.specs.Sheets.{ContainsAll, rings_on}
use Rattle.lvl_flat.proofs.Drawing.{layer_of, sorted_alike}
use Rattle.lvl_flat.proofs.Ending.{rings_on_empty, rings_on-filled}
use Rattle.lvl_flat.proofs.Mapping.{moved_on, mapped_more, mapped_covers, target_there}
use Rattle.lvl_flat.proofs.flat.Flat.mapped.Goals as goal

pub loop-sheet-init : goal.loop-sheet-init
loop-sheet-init c =
    let empty : List PlainSheet = c.in_ok-mapped.mapped.items in
    let target : PlainSheet → Layer = λ s. target_of c.args.view.now.pairs s.layer in
    let targets : c.in_ok-targets_of.field-0.items ≡ map target c.args.self =
    c.in_ok-targets_of.ensures ∙ ap (map target) (c.deref.ensures.value ∙ c.into_sheets-sheets.ensures.sheets) in
    record {
      rings = λ layer. rings_on_empty empty c.in_ok-mapped.ensures.empty layer;
      sorted = c.in_ok-mapped.ensures.sorted;
      there = subst (ContainsAll (map layer_of empty)) targets c.in_ok-mapped.ensures.layers;
      all = c.into_iter-sheet-iterator.ensures.into_iter_gives.0 ∙ c.into_sheets-sheets.ensures.sheets;
    }

pub append_on-requires-clause-there : goal.append_on-requires-clause-there
append_on-requires-clause-there c =
    let layers : List Layer = map layer_of c.loop-sheet.mapped.items in
    let pairs : List LayerPair = c.args.view.now.pairs in
    let t : PlainSheet = c.in-Some.sheet in
    let target : c.target.result ≡ target_of pairs t.layer =
    c.target.ensures ∙ ap (λ (u : PlainSheet). target_of pairs u.layer) c.sheet.view_is in
    let parts : c.loop-sheet.yielded ++ t ∷ c.next.new.self.rest.items ≡ c.args.self =
    ap (λ r. c.loop-sheet.yielded ++ r) (sym c.in-Some.ensures.steps.0) ∙ c.loop-sheet.invariant.all in
    subst (Contains layers) (sym target) (target_there pairs layers c.loop-sheet.yielded c.next.new.self.rest.items
    c.args.self t parts c.loop-sheet.invariant.there)

pub loop-sheet-preserved : goal.loop-sheet-preserved
loop-sheet-preserved c =
    let pairs : List LayerPair = c.args.view.now.pairs in
    let target : PlainSheet → Layer = λ s. target_of pairs s.layer in
    let old : List PlainSheet = c.loop-sheet.mapped.items in
    let new : List PlainSheet = c.append_on.new.sheets.items in
    let before : List PlainSheet = c.loop-sheet.yielded in
    let t : PlainSheet = c.in-Some.sheet in
    let stay : map layer_of new ≡ map layer_of old = c.in_ok-append_on.ensures.layers_stay in
    record {
      rings = λ layer.
          let so_far : Rings = mapped_on pairs layer before in
          c.in_ok-append_on.ensures.appended layer
          ∙ (ap (λ rs. rs ++ cond (same_layer c.target.result layer) c.sheet.inside.rings [])
          (c.loop-sheet.invariant.rings layer)
          ∙ (ap (λ (x : Layer). so_far ++ cond (same_layer x layer) c.sheet.inside.rings []) c.target.ensures
          ∙ (ap (λ (u : PlainSheet). so_far ++ moved_on pairs layer u) c.sheet.view_is
          ∙ sym (mapped_more pairs layer before t))));
      sorted = sorted_alike new old stay c.loop-sheet.invariant.sorted;
      there = subst (λ ls. ContainsAll ls (map target c.args.self)) (sym stay) c.loop-sheet.invariant.there;
      all =
          append_assoc before (t ∷ []) c.next.new.self.rest.items
          ∙ (ap (λ r. before ++ r) (sym c.in-Some.ensures.steps.0) ∙ c.loop-sheet.invariant.all);
    }

pub returns-clause-covers : goal.returns-clause-covers
returns-clause-covers c =
    let pairs : List LayerPair = c.args.view.now.pairs in
    let none =
    nil_from_length c.loop-sheet.sheet-iterator.rest.items
    (sym c.loop-sheet.sheet-iterator.rest.ok.0 ∙ c.in-None.ensures.steps.0) in
    let all : c.loop-sheet.yielded ≡ c.args.self =
    sym (append-nil c.loop-sheet.yielded)
    ∙ (ap (λ r. c.loop-sheet.yielded ++ r) (sym none) ∙ c.loop-sheet.invariant.all) in
    IfOk-weaker c.filled.result _ _
    (λ flat e layer s.
    let same : rings_on layer flat ≡ mapped_on pairs layer c.args.self =
    ap (rings_on layer) e
    ∙ (rings_on-filled c.loop-sheet.mapped.items c.loop-sheet.invariant.sorted layer
    ∙ (c.loop-sheet.invariant.rings layer ∙ ap (mapped_on pairs layer) all)) in
    subst (λ (rs : Rings). SomeCovers rs s ↔ IsMoved pairs (λ l. SomeCovers (rings_on l c.args.self)) layer s)
    (sym same)
    (mapped_covers pairs c.args.self layer s c.into_sheets-sheets.ensures.in_order.sorted)) c.filled.ensures

pub returns-clause-rings : goal.returns-clause-rings
returns-clause-rings c =
    let pairs : List LayerPair = c.args.view.now.pairs in
    let none =
    nil_from_length c.loop-sheet.sheet-iterator.rest.items
    (sym c.loop-sheet.sheet-iterator.rest.ok.0 ∙ c.in-None.ensures.steps.0) in
    let all : c.loop-sheet.yielded ≡ c.args.self =
    sym (append-nil c.loop-sheet.yielded)
    ∙ (ap (λ r. c.loop-sheet.yielded ++ r) (sym none) ∙ c.loop-sheet.invariant.all) in
    IfOk-weaker c.filled.result _ _
    (λ flat e layer. ap (rings_on layer) e
    ∙ (rings_on-filled c.loop-sheet.mapped.items c.loop-sheet.invariant.sorted layer
    ∙ (c.loop-sheet.invariant.rings layer ∙ ap (mapped_on pairs layer) all))) c.filled.ensures
