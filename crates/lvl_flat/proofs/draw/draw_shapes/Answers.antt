use Rattle.std.proofs.Common.{◌≡◌, ◌<◌, ◌+◌, ◌↔◌, ◌⊎◌, ◌++◌, ◌∷◌, [], ℕ, List, All, Contains, map, length, take, get_or}
use Rattle.std.proofs.Common.{sym, ap, subst, ◌∙◌, arith, slice_get, Some}
use Rattle.std.proofs.lemmas.List.{get_or_default, take_all, take_more}
use Rattle.std.proofs.lemmas.List.Elements.{All-more, All-pop}
use Rattle.std.proofs.lemmas.Option.{slice_get-get_or}
use Rattle.lvl_grid.specs.declared.map.Map.{Map}
use Rattle.lvl_grid.specs.Winding.{SomeCovers}
use Rattle.lvl_names.specs.declared.layer.Layer.{Layer}
use Rattle.lvl_cells.specs.Cells.{PlainShape, Rings, shape_at}
use Rattle.lvl_flat.specs.declared.scope.Scope.{Scope}
use Rattle.lvl_flat.specs.Flattened.{FitsRing}
use Rattle.lvl_flat.specs.Sheet.{PlainSheet}
use Rattle.lvl_flat.specs.Sheets.{HaveSheets, rings_on}
use Rattle.lvl_flat.specs.inside.Drawn.{AreDrawn, IsShapeDrawn, ShapePlacesCover}
use Rattle.lvl_flat.specs.inside.Scopes.{IsOfScope}
use Rattle.lvl_flat.proofs.Cutting.{covers_more}
use Rattle.lvl_flat.proofs.Drawing.{layer_of, sorted_alike, rings_more}
use Rattle.lvl_flat.proofs.draw.draw_shapes.Goals as goal

-- if shapes and one more have sheets, the former have, and so has the one
have_fewer : (sheets : List PlainSheet) (shapes : List (PlainShape Rings)) (i : ℕ) (h : PlainShape Rings)
    → i < length shapes → h ≡ get_or shapes i h → HaveSheets sheets (take (i + 1) shapes)
    → HaveSheets sheets (take i shapes) × Contains (map layer_of sheets) h.layer
have_fewer sheets shapes i h inside item have =
    let P : PlainShape Rings → Type 0 = λ g. Contains (map layer_of sheets) g.layer in
    All-pop P (take (i + 1) shapes) (take i shapes) (Some h)
    (take_more shapes i h inside ∙ ap (λ g. take i shapes ++ g ∷ []) (sym item)) have

pub draw_on_sheet-requires-clause-sorted : goal.draw_on_sheet-requires-clause-sorted
draw_on_sheet-requires-clause-sorted c =
    sorted_alike c.loop-i.sheets.items c.args.sheets.now.items c.loop-i.invariant.layers c.requires

pub loop-i-preserved : goal.loop-i-preserved
loop-i-preserved c =
    let kept = c.loop-i.invariant in
    let items : List PlainSheet = c.loop-i.sheets.items in
    let shapes : List (PlainShape Rings) = c.args.shapes.now in
    let i : ℕ = c.loop-i.i in
    let m : Map = c.args.map.now in
    let scope : Scope = c.args.scope.now in
    let before : List PlainSheet = c.args.sheets.now.items in
    let new : List PlainSheet = c.draw_on_sheet.new.sheets.items in
    let ls : List Layer = map layer_of before in
    let h : PlainShape Rings = shape_at shapes i in
    let inside : i < length shapes = omega (arith, c.loop-i-test.true, c.len-i-end.ensures) in
    let item : h ≡ get_or shapes i h = get_or_default shapes i _ h inside in
    let listed : slice_get shapes i ≡ Some h = slice_get-get_or shapes i h inside ∙ ap Some (sym item) in
    let one : IsShapeDrawn m scope h items new = c.in_ok-draw_on_sheet.ensures.drawn in
    record {
      covers = λ l q.
          let P : PlainShape Rings → Type 0 = λ g. (g.layer ≡ l) × ShapePlacesCover m q g in
          covers_more P (IsOfScope ls scope l q) (SomeCovers (rings_on l before) q) (SomeCovers (rings_on l items) q)
          (SomeCovers (rings_on l new) q) shapes i h listed (kept.covers l q)
          (subst (λ xs. SomeCovers (rings_on l new) q
          ↔ (SomeCovers (rings_on l items) q ⊎ (IsOfScope xs scope l q × P h))) kept.layers (one.covers l q));
      fits =
          let F : PlainShape Rings → Type 0 =
          λ g. Contains ls g.layer → All (λ e. All (FitsRing m e) g.figure) g.shifts in
          All-more F shapes i h inside kept.fits
          (subst F item (λ has. one.fits (subst (λ xs. Contains xs h.layer) (sym kept.layers) has)));
      count = λ all have l.
          let fewer = have_fewer before shapes i h inside item have in
          omega (
            arith,
            kept.count all fewer.0 l,
            one.count all (subst (λ xs. Contains xs h.layer) (sym kept.layers) fewer.1) l,
            rings_more l shapes i h inside item,
          );
      layers = one.layers ∙ kept.layers;
    }

pub returns-clause-drawn : goal.returns-clause-drawn
returns-clause-drawn c =
    subst
    (λ hs. AreDrawn c.args.map.now c.args.scope.now hs c.args.sheets.now.items c.loop-i.sheets.items)
    (take_all c.loop-i.i c.args.shapes.now (omega (arith, c.loop-i-test.false, c.len-i-end.ensures)))
    c.loop-i.invariant
