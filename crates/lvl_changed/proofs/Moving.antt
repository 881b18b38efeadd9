-- Layouts that cover the same outside of areas, under a map of Layers.
use Rattle.std.proofs.Common.{◌≡◌, ◌↔◌, ◌⊎◌, ℕ, List, Some, sym, subst, slice_get, IsSomeAnd}
use Rattle.lvl_grid.specs.declared.point.Square.{Square}
use Rattle.lvl_grid.specs.Winding.{SomeCovers}
use Rattle.lvl_names.specs.declared.layer.Layer.{Layer}
use Rattle.lvl_cells.specs.Cells.{PlainCell, Rings}
use Rattle.lvl_cells.specs.Coverage.{CellCovers}
use Rattle.lvl_flat.specs.Flattened.{CoversAt}
use Rattle.lvl_flat.proofs.Covering.{cell_covers}
use Rattle.lvl_view.specs.declared.map.LayerPair.{LayerPair}
use Rattle.lvl_view.specs.Moved.{IsMoved}
use Rattle.lvl_compare.specs.Tops.{Draws}
use Rattle.lvl_changed.specs.declared.area.Area.{Area}
use Rattle.lvl_changed.specs.inside.Areas.{AlikeOutside, Grows}
use Rattle.lvl_changed.specs.inside.Placements.{ReferencesCover}
use Rattle.lvl_changed.specs.inside.Shapes.{ShapesCover}

-- what covers a part of another layout does so under the map too
pub moved_more : (pairs : List LayerPair) (a b : Draws) (s q : Square) → ((l : Layer) → a l s → b l q) → (l : Layer)
    → IsMoved pairs a l s → IsMoved pairs b l q
moved_more pairs a b s q more l m = record {
  source = m.source;
  is_target = m.is_target;
  covers = more m.source m.covers;
}

-- outside of a larger area
pub alike_wider : (v w : Area) (a b : Draws) → Grows v w → AlikeOutside v a b → AlikeOutside w a b
alike_wider v w a b wide same l s out = same l s (λ has. out (wide.has l s has))

-- a cell at an index covers what its shapes and its references do
pub covers_both : (cells : List (PlainCell Rings)) (i : ℕ) (c : PlainCell Rings) → slice_get cells i ≡ Some c
    → (l : Layer) (s : Square)
    → CoversAt cells i l s ↔ (ShapesCover c.shapes l s ⊎ ReferencesCover cells c.references l s)
covers_both cells i c at l s =
    let P : PlainCell Rings → Type 0 = λ d. CellCovers SomeCovers cells l d s in (
      λ h. (cell_covers cells l c s).0 (subst (λ o. IsSomeAnd o P) at h),
      λ e. subst (λ o. IsSomeAnd o P) (sym at) ((cell_covers cells l c s).1 e),
    )
