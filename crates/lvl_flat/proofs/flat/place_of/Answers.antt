use Rattle.std.proofs.Common.{◌≡◌, ◌<◌, ◌≤◌, ◌+◌, ◌-◌, ◌/◌, ℕ, length, slice_get, Some, refl, sym, ap, subst, ◌∙◌}
use Rattle.std.proofs.Common.{arith, false, IsTrue}
use Rattle.std.proofs.lemmas.Option.{slice_get_read, slice_get_past}
use Rattle.lvl_names.specs.declared.layer.Layer.{Layer}
use Rattle.lvl_flat.specs.Sheet.{PlainSheet}
use Rattle.lvl_names.specs.Layers.{ComesBefore}
use Rattle.lvl_flat.proofs.Orders.{up_to, from_on, nowhere}
use Rattle.lvl_names.proofs.Layers.{other_layer, tested_layer}
use Rattle.lvl_flat.proofs.flat.place_of.Goals as goal

pub loop-low-preserved-then-comes_before : goal.loop-low-preserved-then-comes_before
loop-low-preserved-then-comes_before c =
    let kept = c.loop-low.invariant in
    let m : ℕ = c.loop-low.low + (c.loop-low.high - c.loop-low.low) / 2 in
    let inside : m < c.loop-low.high = omega (arith, c.loop-low-test.true) in
    let sheet : PlainSheet = c.index-sheets-middle.result in
    let at : slice_get c.args.sheets.now m ≡ Some sheet =
    slice_get_read c.args.sheets.now (length c.args.sheets.now) m sheet refl (omega (arith, inside, kept.within))
    c.index-sheets-middle.is in
    let layer : c.sheet.inside.layer ≡ sheet.layer = ap (λ (s : PlainSheet). s.layer) c.sheet.view_is in
    let before : ComesBefore sheet.layer c.args.layer =
    subst (λ (x : Layer). ComesBefore x c.args.layer) layer
    (c.comes_before.ensures.0 (subst IsTrue (sym c.if-comes_before.true) cc)) in
    record {
      order = omega (arith, inside);
      within = kept.within;
      below =
          λ k s lt there.
          up_to c.args.sheets.now c.args.layer m k sheet s c.requires at before (omega (arith, lt)) there;
      above = kept.above;
    }

pub loop-low-preserved : goal.loop-low-preserved
loop-low-preserved c =
    let kept = c.loop-low.invariant in
    let m : ℕ = c.loop-low.low + (c.loop-low.high - c.loop-low.low) / 2 in
    let inside : m < c.loop-low.high = omega (arith, c.loop-low-test.true) in
    let sheet : PlainSheet = c.index-sheets-middle.result in
    let at : slice_get c.args.sheets.now m ≡ Some sheet =
    slice_get_read c.args.sheets.now (length c.args.sheets.now) m sheet refl (omega (arith, inside, kept.within))
    c.index-sheets-middle.is in
    let layer : c.sheet.inside.layer ≡ sheet.layer = ap (λ (s : PlainSheet). s.layer) c.sheet.view_is in
    let late : ComesBefore sheet.layer c.args.layer → ⊥ = λ b.
    let reported : IsTrue false =
    subst IsTrue c.if-comes_before.false
    (c.comes_before.ensures.1 (subst (λ (x : Layer). ComesBefore x c.args.layer) (sym layer) b)) in
    cc in
    record {
      order = omega arith;
      within = omega (arith, inside, kept.within);
      below = kept.below;
      above = λ k s le there. from_on c.args.sheets.now c.args.layer m k sheet s c.requires at late le there;
    }

pub returns-in_err-sheet-clause-absent : goal.returns-in_err-sheet-clause-absent
returns-in_err-sheet-clause-absent c =
    let kept = c.loop-low.invariant in
    let past : length c.args.sheets.now ≤ c.loop-low.low = grind (arith, c.in_err-sheet.ensures.lookup) in
    let none : (s : PlainSheet) → slice_get c.args.sheets.now c.loop-low.low ≡ Some s → s.layer ≡ c.args.layer → ⊥ =
    λ s at e. let gone = slice_get_past c.args.sheets.now c.loop-low.low past in cc in
    rw c.from_residual.ensures
    (nowhere c.args.sheets.now c.args.layer c.loop-low.low c.requires kept.below
    (λ k s le. kept.above k s (omega (arith, le, c.loop-low-test.false))) none)

pub returns-then-ne-clause-absent : goal.returns-then-ne-clause-absent
returns-then-ne-clause-absent c =
    let kept = c.loop-low.invariant in
    let sheet : PlainSheet = c.in_ok-sheet.sheet.now in
    let at : slice_get c.args.sheets.now c.loop-low.low ≡ Some sheet =
    slice_get_read c.args.sheets.now (length c.args.sheets.now) c.loop-low.low sheet refl
    c.in_ok-sheet.ensures.lookup.3.0 c.in_ok-sheet.ensures.lookup.1 in
    let layer : c.sheet-2.inside.layer ≡ sheet.layer = ap (λ (s : PlainSheet). s.layer) c.sheet-2.view_is in
    let other : (s : PlainSheet) → slice_get c.args.sheets.now c.loop-low.low ≡ Some s → s.layer ≡ c.args.layer → ⊥ =
    λ s there e.
    let one : Some s ≡ Some sheet = sym there ∙ at in
    let here : s ≡ sheet = cc in
    other_layer c.sheet-2.inside.layer c.args.layer (sym c.ne.ensures ∙ c.if-ne.true)
    (layer ∙ (ap (λ (u : PlainSheet). u.layer) (sym here) ∙ e)) in
    nowhere c.args.sheets.now c.args.layer c.loop-low.low c.requires kept.below
    (λ k s le. kept.above k s (omega (arith, le, c.loop-low-test.false))) other

pub returns-clause-found : goal.returns-clause-found
returns-clause-found c =
    let sheet : PlainSheet = c.in_ok-sheet.sheet.now in
    let layer : c.sheet-2.inside.layer ≡ sheet.layer = ap (λ (s : PlainSheet). s.layer) c.sheet-2.view_is in
    record {
      sheet = sheet;
      there =
          slice_get_read c.args.sheets.now (length c.args.sheets.now) c.loop-low.low sheet refl
          c.in_ok-sheet.ensures.lookup.3.0 c.in_ok-sheet.ensures.lookup.1;
      layer_is = sym layer ∙ tested_layer c.sheet-2.inside.layer c.args.layer (sym c.ne.ensures ∙ c.if-ne.false);
    }
