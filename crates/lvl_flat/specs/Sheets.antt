-- Lists of sheets: the rings on a Layer, and the order of the sheets.
use Rattle.std.specs.Prelude.{◌≡◌, ◌≢◌, ℕ, List, [], ◌∷◌, All, AllPairs, Bool, true, false, slice_get, Some, map}
use Rattle.std.specs.Prelude.{Contains, if◌then◌else◌}
use Rattle.lvl_names.specs.declared.layer.Layer.{Layer}
use Rattle.lvl_cells.specs.Cells.{PlainShape, Rings}
use Rattle.lvl_names.specs.Layers.{same_layer, ComesBefore}
use Rattle.lvl_flat.specs.Sheet.{PlainSheet}

-- the rings of the first sheet for the Layer, or none if there is no such sheet
abbrev pub rings_on : Layer → List PlainSheet → Rings
rings_on layer [] = []
rings_on layer (sheet ∷ sheets) = if same_layer sheet.layer layer then sheet.rings else rings_on layer sheets

-- the sheet has rings
abbrev pub has_rings : Rings → Bool
has_rings [] = false
has_rings (ring ∷ rings) = true

-- the sheet has rings
abbrev pub is_filled : PlainSheet → Bool
is_filled s = has_rings s.rings

-- the sheets are in the order of their Layers, and no Layer has two
abbrev pub AreSorted : List PlainSheet → Type 0
AreSorted sheets = AllPairs (λ s t. ComesBefore s.layer t.layer) sheets

-- each sheet has rings, they are in the order of their Layers, and no Layer has two
pub record IsInOrder (sheets : List PlainSheet) : Type 0 where
  pub filled : All (λ s. s.rings ≢ []) sheets
  pub sorted : AreSorted sheets

-- the sheet at index i is for the Layer
pub record SheetAt (sheets : List PlainSheet) (i : ℕ) (layer : Layer) : Type 0 where
  pub sheet : PlainSheet
  pub there : slice_get sheets i ≡ Some sheet
  pub layer_is : sheet.layer ≡ layer

-- each shape's Layer has a sheet
abbrev pub HaveSheets : List PlainSheet → List (PlainShape Rings) → Type 0
HaveSheets sheets shapes = All (λ h. Contains (map (λ s. s.layer) sheets) h.layer) shapes

-- `layers` has each of the Layers in `some`
abbrev pub ContainsAll : List Layer → List Layer → Type 0
ContainsAll layers some = All (Contains layers) some
