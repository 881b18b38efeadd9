-- Two flat layouts, and their first difference.
use Rattle.std.specs.Prelude.{◌≡◌, ◌↔◌, ◌⊎◌, List, [], ◌∷◌, Option, Some, None, if◌then◌else◌}
use Rattle.lvl_grid.specs.declared.point.Square.{Square}
use Rattle.lvl_grid.specs.declared.point.Window.{Window}
use Rattle.lvl_grid.specs.Winding.{SomeCovers}
use Rattle.lvl_names.specs.declared.layer.Layer.{Layer}
use Rattle.lvl_names.specs.Layers.{same_layer, ComesBefore}
use Rattle.lvl_flat.specs.Sheet.{PlainSheet}
use Rattle.lvl_flat.specs.Sheets.{rings_on}
use Rattle.lvl_region.specs.Region.{IsAlone}
use Rattle.lvl_region.specs.declared.region.Side.{Side}
use Rattle.lvl_grid.specs.Squares.{IsBefore}
use Rattle.lvl_columns.specs.Windows.{IsShown}

-- both cover the same squares on the Layer
abbrev pub AlikeOn : List PlainSheet → List PlainSheet → Layer → Type 0
AlikeOn a b layer = (s : Square) → SomeCovers (rings_on layer a) s ↔ SomeCovers (rings_on layer b) s

-- a difference on the first Layer that has one: on lesser Layers both cover the same, and only one side covers the
-- square
pub record IsApart (a b : List PlainSheet) (layer : Layer) (square : Square) (side : Side) : Type 0 where
  pub alone : IsAlone (SomeCovers (rings_on layer a)) (SomeCovers (rings_on layer b)) square side
  pub least_layer : (l : Layer) → ComesBefore l layer → AlikeOn a b l

-- the first difference: on lesser Layers, and at lesser squares of this Layer, both cover the same, and only one side
-- covers the square
pub record IsFirstApart (a b : List PlainSheet) (layer : Layer) (square : Square) (side : Side) : Type 0 where
  pub alone : IsAlone (SomeCovers (rings_on layer a)) (SomeCovers (rings_on layer b)) square side
  pub least_layer : (l : Layer) → ComesBefore l layer → AlikeOn a b l
  pub least_square : (s : Square) → IsBefore s square
      → SomeCovers (rings_on layer a) s ↔ SomeCovers (rings_on layer b) s

-- both cover the same squares of the optional window on the Layer
abbrev pub AlikeIn : Option Window → List PlainSheet → List PlainSheet → Layer → Type 0
AlikeIn window a b layer =
    (s : Square) → IsShown window s → SomeCovers (rings_on layer a) s ↔ SomeCovers (rings_on layer b) s

-- the first difference among the squares of the optional window
pub record IsFirstApartIn (window : Option Window) (a b : List PlainSheet) (layer : Layer) (square : Square)
    (side : Side) : Type 0 where
  pub shown : IsShown window square
  pub alone : IsAlone (SomeCovers (rings_on layer a)) (SomeCovers (rings_on layer b)) square side
  pub least_layer : (l : Layer) → ComesBefore l layer → AlikeIn window a b l
  pub least_square : (s : Square) → IsShown window s → IsBefore s square
      → SomeCovers (rings_on layer a) s ↔ SomeCovers (rings_on layer b) s

-- the Layer of the first sheet
abbrev pub head_layer : List PlainSheet → Option Layer
head_layer [] = None
head_layer (sheet ∷ sheets) = Some sheet.layer

-- the sheets without the first, if that is for the Layer
abbrev pub later : Layer → List PlainSheet → List PlainSheet
later layer [] = []
later layer (sheet ∷ sheets) = if same_layer sheet.layer layer then sheets else sheet ∷ sheets

-- the lesser of two Layers, or the only one that there is
abbrev pub IsLesser : Option Layer → Option Layer → Option Layer → Type 0
IsLesser None other result = result ≡ other
IsLesser (Some a) None result = result ≡ Some a
IsLesser (Some a) (Some b) result = ((result ≡ Some a) × (¬ ComesBefore b a)) ⊎ ((result ≡ Some b) × ComesBefore b a)
