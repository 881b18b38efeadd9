-- Where two layouts differ, in terms of the squares that they draw.
use Rattle.std.specs.Prelude.{◌↔◌, List, Contains}
use Rattle.lvl_grid.specs.declared.point.Square.{Square}
use Rattle.lvl_grid.specs.Squares.{IsBefore}
use Rattle.lvl_names.specs.declared.layer.Layer.{Layer}
use Rattle.lvl_names.specs.Layers.{ComesBefore}
use Rattle.lvl_region.specs.Region.{IsAlone}
use Rattle.lvl_region.specs.declared.region.Side.{Side}

-- what a layout draws: for each Layer, a set of squares
abbrev pub Draws : Type 1
Draws = Layer → Square → Type 0

-- on every Layer both draw the same of the squares for which Seen holds
abbrev pub DrawSame : (Square → Type 0) → Draws → Draws → Type 0
DrawSame Seen a b = (layer : Layer) (s : Square) → Seen s → a layer s ↔ b layer s

-- the first difference of two layouts, among the squares for which Seen holds: only one side draws the square on the
-- Layer, and on lesser Layers, and at lesser squares of this Layer, both draw the same
pub record IsFirstDifference (Seen : Square → Type 0) (a b : Draws) (layer : Layer) (square : Square)
    (side : Side) : Type 0 where
  pub seen : Seen square
  pub alone : IsAlone (a layer) (b layer) square side
  pub least_layer : (l : Layer) → ComesBefore l layer → (s : Square) → Seen s → a l s ↔ b l s
  pub least_square : (s : Square) → Seen s → IsBefore s square → a layer s ↔ b layer s

-- on the Layers of the list both draw the same of the squares for which Seen holds
abbrev pub DrawSameOn : List Layer → (Square → Type 0) → Draws → Draws → Type 0
DrawSameOn layers Seen a b = (layer : Layer) (s : Square) → Contains layers layer → Seen s → a layer s ↔ b layer s

-- a difference among the squares for which Seen holds: only one side draws the square on the Layer, at lesser squares of
-- this Layer both draw the same, and so they do on those lesser Layers that the list has
pub record IsFirstDifferenceOn (layers : List Layer) (Seen : Square → Type 0) (a b : Draws) (layer : Layer)
    (square : Square) (side : Side) : Type 0 where
  pub seen : Seen square
  pub alone : IsAlone (a layer) (b layer) square side
  pub least_layer : (l : Layer) → Contains layers l → ComesBefore l layer → (s : Square) → Seen s → a l s ↔ b l s
  pub least_square : (s : Square) → Seen s → IsBefore s square → a layer s ↔ b layer s
