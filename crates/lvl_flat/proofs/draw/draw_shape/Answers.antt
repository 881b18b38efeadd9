use Rattle.std.proofs.Common.{◌≡◌, ◌<◌, ◌+◌, ◌*◌, [], ℕ, List, Some, length, get_or, slice_get, take, subst, arith}
use Rattle.std.proofs.Common.{ap, sym, ◌∙◌}
use Rattle.std.proofs.Math.Nat.{add-mul}
use Rattle.std.proofs.lemmas.List.{length-take-le, take_all}
use Rattle.std.proofs.lemmas.List.Elements.{All-more}
use Rattle.std.proofs.lemmas.Option.{slice_get-get_or}
use Rattle.lvl_grid.specs.declared.map.Map.{Map}
use Rattle.lvl_grid.specs.declared.point.Point.{Point}
use Rattle.lvl_grid.specs.Winding.{SomeCovers}
use Rattle.lvl_cells.specs.Cells.{Rings, shape_at}
use Rattle.lvl_flat.specs.declared.scope.Scope.{Scope}
use Rattle.lvl_flat.specs.inside.Drawn.{FitsAtEach, IsFigureDrawn, RingPlacesCover}
use Rattle.lvl_flat.specs.inside.Scopes.{IsInScope}
use Rattle.lvl_flat.proofs.Cutting.{covers_more}
use Rattle.lvl_flat.proofs.draw.draw_shape.Goals as goal

pub loop-j-preserved : goal.loop-j-preserved
loop-j-preserved c =
    let figure : Rings = (shape_at c.args.shapes.now c.args.i).figure in
    let shifts : List Point = (shape_at c.args.shapes.now c.args.i).shifts in
    let m : Map = c.args.map.now in
    let scope : Scope = c.args.scope.now in
    let j : ℕ = c.loop-j.j in
    let there : j < length figure = omega (arith, c.loop-j-test.true, c.ring_count-j-end.ensures) in
    let at : slice_get figure j ≡ Some (get_or figure j []) = slice_get-get_or figure j [] there in
    let drawn = c.in_ok-draw_ring.ensures.drawn in
    record {
      covers = λ q.
          covers_more (RingPlacesCover m shifts q) (IsInScope scope q) (SomeCovers c.args.rings.now q)
          (SomeCovers c.loop-j.rings q) (SomeCovers c.draw_ring.new.rings q) figure j (get_or figure j []) at
          (c.loop-j.invariant.covers q) (drawn.covers q);
      fits = All-more (FitsAtEach m shifts) figure j [] there c.loop-j.invariant.fits drawn.fits;
      count = λ all.
          let n : ℕ = length shifts in
          let before : length (take j figure) ≡ j = length-take-le j figure (omega (arith, there)) in
          let after : length (take (j + 1) figure) ≡ j + 1 = length-take-le (j + 1) figure (omega (arith, there)) in
          let one : (j + 1) * n ≡ j * n + n = omega (arith, add-mul j 1 n) in
          let more : length (take (j + 1) figure) * n ≡ length (take j figure) * n + n =
          ap (λ k. k * n) after ∙ (one ∙ ap (λ k. k * n + n) (sym before)) in
          omega (arith, c.loop-j.invariant.count all, drawn.count all, more);
    }

pub returns-clause-drawn : goal.returns-clause-drawn
returns-clause-drawn c =
    let figure : Rings = (shape_at c.args.shapes.now c.args.i).figure in
    let shifts : List Point = (shape_at c.args.shapes.now c.args.i).shifts in
    subst (λ rings. IsFigureDrawn c.args.map.now c.args.scope.now shifts rings c.args.rings.now c.loop-j.rings)
    (take_all c.loop-j.j figure (omega (arith, c.loop-j-test.false, c.ring_count-j-end.ensures)))
    c.loop-j.invariant
