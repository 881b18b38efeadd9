use Rattle.std.proofs.Common.{◌≡◌, ◌++◌, ◌==◌, ◌↔◌, Bool, IsTrue, [], ◌∷◌, length, true, false, not, filter, refl, ap}
use Rattle.std.proofs.Common.{sym, subst, ◌∙◌, arith}
use Rattle.lvl_cells.specs.Cells.{Rings}
use Rattle.std.proofs.lemmas.List.{append-nil, nil_from_length}
use Rattle.lvl_flat.specs.Sheet.{PlainSheet}
use Rattle.lvl_flat.specs.Sheets.{is_filled, IsInOrder}
use Rattle.lvl_flat.proofs.Ending.{filled_in_order, filled_step, sheets_go}
use Rattle.lvl_flat.proofs.flat.Flat.filled.Goals as goal

untrue : IsTrue false → ⊥
untrue h = cc

-- a test for an empty list, by its length
empty_is : (rings : Rings) (b : Bool) → IsTrue b ↔ (rings ≡ []) → (length rings == 0) ≡ b
empty_is [] true h = refl
empty_is [] false h = absurd (untrue (h.1 refl))
empty_is (ring ∷ rings) true h = (let e : ring ∷ rings ≡ [] = h.0 refl in cc)
empty_is (ring ∷ rings) false h = grind arith

pub loop-sheet-init : goal.loop-sheet-init
loop-sheet-init c = record {
  filled = c.new-filled.ensures.items;
  all = c.into_iter-sheet-iterator.ensures.into_iter_gives.0;
}

pub loop-sheet-preserved-in-Continue-1 : goal.loop-sheet-preserved-in-Continue-1
loop-sheet-preserved-in-Continue-1 c =
    let long : (length c.in-Some.sheet.rings == 0) ≡ not true =
    ap (λ (s : PlainSheet). length s.rings == 0) (sym c.sheet.view_is)
    ∙ (empty_is c.sheet.inside.rings c.is_empty.result c.is_empty.ensures ∙ c.if-not-is_empty.true) in
    record {
      filled =
          c.in_ok-push.ensures.items
          ∙ filled_step c.loop-sheet.yielded c.loop-sheet.filled.items c.in-Some.sheet true long
          c.loop-sheet.invariant.filled;
      all =
          sheets_go c.args.sheets.items c.loop-sheet.yielded c.loop-sheet.sheet-iterator.rest.items
          c.next.new.self.rest.items c.in-Some.sheet c.loop-sheet.invariant.all c.in-Some.ensures.steps.0;
    }

pub loop-sheet-preserved : goal.loop-sheet-preserved
loop-sheet-preserved c =
    let long : (length c.in-Some.sheet.rings == 0) ≡ not false =
    ap (λ (s : PlainSheet). length s.rings == 0) (sym c.sheet.view_is)
    ∙ (empty_is c.sheet.inside.rings c.is_empty.result c.is_empty.ensures ∙ c.if-not-is_empty.false) in
    record {
      filled =
          sym (append-nil c.loop-sheet.filled.items)
          ∙ filled_step c.loop-sheet.yielded c.loop-sheet.filled.items c.in-Some.sheet false long
          c.loop-sheet.invariant.filled;
      all =
          sheets_go c.args.sheets.items c.loop-sheet.yielded c.loop-sheet.sheet-iterator.rest.items
          c.next.new.self.rest.items c.in-Some.sheet c.loop-sheet.invariant.all c.in-Some.ensures.steps.0;
    }

pub invariant_of-result : goal.invariant_of-result
invariant_of-result c =
    let none =
    nil_from_length c.loop-sheet.sheet-iterator.rest.items
    (sym c.loop-sheet.sheet-iterator.rest.ok.0 ∙ c.in-None.ensures.steps.0) in
    let all : c.loop-sheet.yielded ≡ c.args.sheets.items =
    sym (append-nil c.loop-sheet.yielded)
    ∙ (ap (λ r. c.loop-sheet.yielded ++ r) (sym none) ∙ c.loop-sheet.invariant.all) in
    record {
      in_order =
          subst IsInOrder (sym (c.loop-sheet.invariant.filled ∙ ap (filter is_filled) all))
          (filled_in_order c.args.sheets.items c.requires);
      none_are = c.new.ensures;
    }

pub returns : goal.returns
returns c =
    let none =
    nil_from_length c.loop-sheet.sheet-iterator.rest.items
    (sym c.loop-sheet.sheet-iterator.rest.ok.0 ∙ c.in-None.ensures.steps.0) in
    let all : c.loop-sheet.yielded ≡ c.args.sheets.items =
    sym (append-nil c.loop-sheet.yielded)
    ∙ (ap (λ r. c.loop-sheet.yielded ++ r) (sym none) ∙ c.loop-sheet.invariant.all) in
    c.loop-sheet.invariant.filled ∙ ap (filter is_filled) all
