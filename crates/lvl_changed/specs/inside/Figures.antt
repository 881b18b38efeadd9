-- Shapes that cover the same, and those that others don't have.
use Rattle.std.specs.Prelude.{◌≡◌, ◌<◌, ◌↔◌, ◌⊎◌, ℕ, List, length}
use Rattle.lvl_grid.specs.declared.point.Square.{Square}
use Rattle.lvl_grid.specs.Winding.{SomeCovers}
use Rattle.lvl_names.specs.declared.layer.Layer.{Layer}
use Rattle.lvl_cells.specs.Cells.{PlainShape, Rings, shape_at}
use Rattle.lvl_view.specs.declared.map.LayerPair.{LayerPair}
use Rattle.lvl_view.specs.Moved.{IsMoved}
use Rattle.lvl_view.specs.Views.{target_of}
use Rattle.lvl_changed.specs.inside.Shapes.{ShapesCover}

-- shape i of the first list and shape j of the second cover the same, each under the map of its list: their rings do,
-- and their shifts are the same
pub record AreAlike (pairs : List LayerPair) (xs : List (PlainShape Rings)) (i : ℕ) (others : List LayerPair)
    (ys : List (PlainShape Rings)) (j : ℕ) : Type 0 where
  pub within : j < length ys
  pub layer : target_of pairs (shape_at xs i).layer ≡ target_of others (shape_at ys j).layer
  pub figure : (s : Square) → SomeCovers (shape_at xs i).figure s ↔ SomeCovers (shape_at ys j).figure s
  pub shifts : (shape_at xs i).shifts ≡ (shape_at ys j).shifts

-- the second list has such a shape
abbrev pub HasAlike : List LayerPair → List (PlainShape Rings) → ℕ → List LayerPair → List (PlainShape Rings) → Type 0
HasAlike pairs xs i others ys = (j : ℕ) × AreAlike pairs xs i others ys j

-- `left` covers a part of what the shapes cover, and all that the other shapes don't, on the Layers as mapped
pub record AreLeft (pairs : List LayerPair) (shapes : List (PlainShape Rings)) (others : List LayerPair)
    (ys left : List (PlainShape Rings)) : Type 0 where
  pub inside : (layer : Layer) (s : Square) → ShapesCover left layer s → IsMoved pairs (ShapesCover shapes) layer s
  pub held : (layer : Layer) (s : Square) → IsMoved pairs (ShapesCover shapes) layer s
      → ShapesCover left layer s ⊎ IsMoved others (ShapesCover ys) layer s
