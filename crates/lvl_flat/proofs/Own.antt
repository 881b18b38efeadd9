-- Candidates among the top's own shapes, drawn.
use Rattle.std.proofs.Common.{◌≡◌, inl, inr, ℕ, List, [], ◌∷◌, Any, length, slice_get}
use Rattle.std.proofs.Common.{Some, get_or, refl, sym, subst, arith}
use Rattle.std.specs.Prelude.{IfSome, IsSomeAnd}
use Rattle.std.proofs.lemmas.Option.{slice_get_read, slice_get_within, get_or_from_slice_get}
use Rattle.lvl_grid.specs.declared.point.Square.{Square}
use Rattle.lvl_grid.specs.declared.point.Window.{Window}
use Rattle.lvl_grid.proofs.Anyone.{some_contained}
use Rattle.lvl_grid.specs.Winding.{SomeCovers}
use Rattle.lvl_names.specs.declared.layer.Layer.{Layer}
use Rattle.lvl_cells.specs.Cells.{PlainCell, PlainShape, Rings}
use Rattle.lvl_cells.specs.Chains.{unmoved}
use Rattle.lvl_cells.specs.Checks.{Settled}
use Rattle.lvl_cells.specs.Coverage.{ShapeCovers}
use Rattle.lvl_flat.specs.Candidates.{HasAll}
use Rattle.lvl_flat.specs.Flattened.{AllInRange, IsTopInRange}
use Rattle.lvl_flat.specs.Sheet.{PlainSheet}
use Rattle.lvl_flat.specs.declared.candidates.Part.TheVariants.{Shape}
use Rattle.lvl_flat.specs.declared.scope.Scope.TheVariants.{Within}
use Rattle.lvl_flat.specs.inside.Drawn.{AreDrawnAt, PlacesAt, ShapePlacesCover, ShapesPlaceCover}
use Rattle.lvl_flat.specs.inside.Entering.{IsDrawn}
use Rattle.lvl_flat.proofs.Advancing.{shapes_place, under_unmoved}
use Rattle.lvl_flat.proofs.Covering.{some_is}

-- a shape that isn't moved covers the squares of its place
shape_there : (layer : Layer) (q : Square) (h : PlainShape Rings) → h.layer ≡ layer → ShapePlacesCover unmoved q h
    → ShapeCovers SomeCovers layer q h
shape_there layer q h on covers =
    let P : PlainShape Rings → Type 0 = λ g. (g.layer ≡ layer) × ShapePlacesCover unmoved q g in
    let one : ShapesPlaceCover layer unmoved q (h ∷ []) = some_contained P (h ∷ []) h (0, omega arith, refl) (on, covers) in
    let a =
    (under_unmoved q (λ t. Any (ShapeCovers SomeCovers layer t) (h ∷ []))).0
    ((shapes_place layer unmoved q (h ∷ [])).0 one) in
    let only : a.0 ≡ 0 = omega (arith, a.2) in
    let is : h ≡ a.1 = subst (λ k. get_or (h ∷ []) k a.1 ≡ a.1) only a.3 in
    subst (ShapeCovers SomeCovers layer q) (sym is) a.4

-- those of the shapes that are drawn cover what all of them cover in the window
pub own_drawn : (s : Settled) (window : Window) (top : PlainCell Rings) (list : List ℕ) (old new : List PlainSheet)
    → slice_get s.cells s.top ≡ Some top → IsTopInRange s → HasAll s window Shape list
    → AreDrawnAt unmoved (Within window) top.shapes list old new
    → IsDrawn s.cells s.top unmoved (Within window) old new
own_drawn s window top list old new at range has drawn =
    let in_range : AllInRange s.cells top = subst (λ o. IfSome o (AllInRange s.cells)) at range in
    record {
      cell = top;
      there = at;
      drawn = record {
        covers = λ layer q. (
          λ a. elim ((drawn.covers layer q).0 a) [
            | inl b ↦ inl b
            | inr b ↦
                let found =
                some_is (λ (h : PlainShape Rings). (h.layer ≡ layer) × ShapePlacesCover unmoved q h)
                (slice_get top.shapes b.1.1) b.1.4 in
                inr (
                  b.0,
                  (
                    b.1.1,
                    found.0,
                    slice_get_within top.shapes b.1.1 found.0 found.1,
                    get_or_from_slice_get top.shapes b.1.1 found.0 found.0 found.1,
                    found.2,
                  ),
                )
          ],
          λ e. (drawn.covers layer q).1 (elim e [
            | inl b ↦ inl b
            | inr b ↦
                let i : ℕ = b.1.0 in
                let h : PlainShape Rings = b.1.1 in
                let there : slice_get top.shapes i ≡ Some h =
                slice_get_read top.shapes (length top.shapes) i h refl b.1.2 (sym b.1.3) in
                let covers : IsSomeAnd (slice_get top.shapes i) (ShapeCovers SomeCovers layer q) =
                subst (λ o. IsSomeAnd o (ShapeCovers SomeCovers layer q)) (sym there)
                (shape_there layer q h b.1.4.0 b.1.4.1) in
                let places : PlacesAt layer unmoved q top.shapes i =
                subst (λ o. IsSomeAnd o (λ (g : PlainShape Rings). (g.layer ≡ layer) × ShapePlacesCover unmoved q g))
                (sym there) b.1.4 in
                inr (
                  b.0,
                  some_contained (PlacesAt layer unmoved q top.shapes) list i (has top at i layer q b.0.1 covers) places,
                )
          ]),
        );
        fits = λ k h inside listed.
            (in_range 0 unmoved top (refl, refl)).vertices k h inside;
        count = λ all. cc;
        layers = drawn.layers;
      };
    }
