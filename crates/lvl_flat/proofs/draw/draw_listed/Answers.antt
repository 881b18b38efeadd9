use Rattle.std.proofs.Common.{◌≡◌, ◌<◌, ◌↔◌, ◌⊎◌, ℕ, List, Some, map, length, get_or, slice_get, subst, ◌∙◌}
use Rattle.std.proofs.Common.{arith}
use Rattle.std.proofs.lemmas.Option.{slice_get-get_or}
use Rattle.lvl_grid.specs.declared.map.Map.{Map}
use Rattle.lvl_grid.specs.Winding.{SomeCovers}
use Rattle.lvl_names.specs.declared.layer.Layer.{Layer}
use Rattle.lvl_cells.specs.Cells.{PlainShape, Rings}
use Rattle.lvl_flat.specs.declared.scope.Scope.{Scope}
use Rattle.lvl_flat.specs.Sheet.{PlainSheet}
use Rattle.lvl_flat.specs.Sheets.{rings_on}
use Rattle.lvl_flat.specs.inside.Drawn.{IsDrawnAt, PlacesAt}
use Rattle.lvl_flat.specs.inside.Scopes.{IsOfScope}
use Rattle.lvl_flat.proofs.Cutting.{covers_more}
use Rattle.lvl_flat.proofs.Drawing.{layer_of, sorted_alike}
use Rattle.lvl_flat.proofs.draw.draw_listed.Goals as goal

pub draw_at-requires : goal.draw_at-requires
draw_at-requires c =
    sorted_alike c.loop-place.sheets.items c.args.sheets.now.items c.loop-place.invariant.layers c.requires

pub loop-place-preserved : goal.loop-place-preserved
loop-place-preserved c =
    let kept = c.loop-place.invariant in
    let items : List PlainSheet = c.loop-place.sheets.items in
    let shapes : List (PlainShape Rings) = c.args.shapes.now in
    let list : List ℕ = c.args.list.now in
    let k : ℕ = c.loop-place.place in
    let i : ℕ = get_or list k 0 in
    let m : Map = c.args.map.now in
    let scope : Scope = c.args.scope.now in
    let before : List PlainSheet = c.args.sheets.now.items in
    let new : List PlainSheet = c.draw_at.new.sheets.items in
    let ls : List Layer = map layer_of before in
    let inside : k < length list = omega (arith, c.loop-place-test.true, c.len-place-end.ensures.value) in
    let at : slice_get list k ≡ Some i = slice_get-get_or list k 0 inside in
    let one : IsDrawnAt m scope shapes i items new =
    subst (λ n. IsDrawnAt m scope shapes n items new) c.at.ensures c.in_ok-draw_at.ensures in
    record {
      covers = λ l q.
          covers_more (PlacesAt l m q shapes) (IsOfScope ls scope l q) (SomeCovers (rings_on l before) q)
          (SomeCovers (rings_on l items) q) (SomeCovers (rings_on l new) q) list k i at (kept.covers l q)
          (subst (λ xs. SomeCovers (rings_on l new) q
          ↔ (SomeCovers (rings_on l items) q ⊎ (IsOfScope xs scope l q × PlacesAt l m q shapes i))) kept.layers
          (one.covers l q));
      layers = one.layers ∙ kept.layers;
    }
