use Rattle.std.proofs.Common.{◌≡◌, ◌<◌, ◌↔◌, ◌⊎◌, inl, inr, List, map, length, slice_get, Some, None, sym, subst}
use Rattle.std.proofs.Common.{arith, refl}
use Rattle.std.specs.Prelude.{IsSomeAnd}
use Rattle.std.proofs.lemmas.Option.{slice_get-get_or, slice_get_past}
use Rattle.std.proofs.lemmas.Result.{on_ok_weaker}
use Rattle.lvl_grid.specs.Winding.{SomeCovers}
use Rattle.lvl_cells.specs.Cells.{PlainShape, Rings, shape_at}
use Rattle.lvl_flat.specs.Sheets.{rings_on}
use Rattle.lvl_flat.specs.inside.Drawn.{ShapePlacesCover}
use Rattle.lvl_flat.specs.inside.Scopes.{IsOfScope}
use Rattle.lvl_flat.proofs.Drawing.{layer_of}
use Rattle.lvl_flat.proofs.draw.draw_at.Goals as goal

pub returns-then-i-len : goal.returns-then-i-len
returns-then-i-len c =
    let shapes : List (PlainShape Rings) = c.args.shapes.now in
    let past : slice_get shapes c.args.i ≡ None =
    slice_get_past shapes c.args.i (omega (arith, c.if-i-len.true, c.len.ensures)) in
    record {
      covers = λ l q. (
        λ a. inl a,
        λ e. elim e [
          | inl a ↦ a
          | inr a ↦
              absurd (subst (λ o. IsSomeAnd o (λ h. (h.layer ≡ l) × ShapePlacesCover c.args.map.now q h)) past a.1)
        ],
      );
      layers = refl;
    }

pub returns : goal.returns
returns c =
    let shapes : List (PlainShape Rings) = c.args.shapes.now in
    let h : PlainShape Rings = shape_at shapes c.args.i in
    let inside : c.args.i < length shapes = omega (arith, c.if-i-len.false, c.len.ensures) in
    let item : slice_get shapes c.args.i ≡ Some h = slice_get-get_or shapes c.args.i _ inside in
    let before = c.args.sheets.now.items in
    let after = c.draw_on_sheet.new.sheets.items in
    on_ok_weaker c.draw_on_sheet.result (λ one. record {
      covers = λ l q.
          let Q : PlainShape Rings → Type 0 = λ g. (g.layer ≡ l) × ShapePlacesCover c.args.map.now q g in
          subst (λ o. SomeCovers (rings_on l after) q
          ↔ (SomeCovers (rings_on l before) q
          ⊎ (IsOfScope (map layer_of before) c.args.scope.now l q × IsSomeAnd o Q))) (sym item) (one.covers l q);
      layers = one.layers;
    }) c.draw_on_sheet.ensures.drawn
