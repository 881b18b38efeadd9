-- Views, the texts that say them, and why texts are refused (own rules).
use Rattle.std.specs.Prelude.{◌≡◌, ℕ, ◌≤ℤ◌, List, [], ◌∷◌, ◌++◌, ◌⊎◌, map, Contains, Option, Some, None, unwrap_or}
use Rattle.std.specs.Prelude.{option_map, if◌then◌else◌}
use denote.Ref.{Bor}
use Rattle.std.specs.List.{IsDistinct}
use Rattle.std.specs.BTreeMap as tree
use Rattle.lvl_names.specs.Layers.{same_layer}
use Rattle.lvl_names.specs.declared.layer.Layer.{Layer}
use Rattle.lvl_names.specs.contracts.layer.LayerOrd.TheImpl as layer_ord
use Rattle.lvl_grid.specs.declared.point.Window.{Window}
use Rattle.lvl_view.specs.Texts.{IsMapText, IsWindowText}
use Rattle.lvl_view.specs.declared.map.LayerPair.{LayerPair}
use Rattle.lvl_view.specs.declared.fault.ViewFault.{ViewFault}
use Rattle.lvl_view.specs.declared.fault.ViewFault.TheVariants.{MapText, WindowText, MapTwice, EmptyWindow}

-- a view: pairs of a source Layer and a target Layer, and a window or none
pub record PlainView : Type 0 where
  pub pairs : List LayerPair
  pub window : Option Window

-- the view has no pairs and no window
pub record IsWhole (view : PlainView) : Type 0 where
  pub no_pairs : view.pairs ≡ []
  pub no_window : view.window ≡ None

-- the target of the first pair whose source is the Layer, if there is one
abbrev pub target_in : List LayerPair → Layer → Option Layer
target_in [] layer = None
target_in (pair ∷ pairs) layer = if same_layer pair.source layer then Some pair.target else target_in pairs layer

-- the target of a Layer: that of the pair whose source it is, or else the Layer itself
abbrev pub target_of : List LayerPair → Layer → Layer
target_of pairs layer = unwrap_or (target_in pairs layer) layer

-- the sources of the pairs, in order
abbrev pub sources : List LayerPair → List Layer
sources pairs = map (λ pair. pair.source) pairs

-- the text, if one is given
abbrev pub text_of : Option (Bor (List ℕ)) → Option (List ℕ)
text_of given = option_map (λ text. text.now) given

-- the text says these pairs; if no text is given, there are none
abbrev pub IsMapOf : Option (List ℕ) → List LayerPair → Type 0
IsMapOf None pairs = pairs ≡ []
IsMapOf (Some text) pairs = IsMapText text pairs

-- the text says this window; if no text is given, there is none
abbrev pub IsWindowOf : Option (List ℕ) → Option Window → Type 0
IsWindowOf None window = window ≡ None
IsWindowOf (Some text) None = ⊥
IsWindowOf (Some text) (Some window) = IsWindowText text window

-- the texts say the pairs and the window of the view
abbrev pub IsReadingOf : Option (List ℕ) → Option (List ℕ) → PlainView → Type 0
IsReadingOf map_text window_text view = IsMapOf map_text view.pairs × IsWindowOf window_text view.window

-- there is a window, and it has no squares
abbrev pub IsEmptyWindow : Option Window → Type 0
IsEmptyWindow None = ⊥
IsEmptyWindow (Some w) = (w.x1 ≤ℤ w.x0) ⊎ (w.y1 ≤ℤ w.y0)

-- the Layer is the first of the list that equals an earlier one
pub record IsFirstTwice (all : List Layer) (layer : Layer) : Type 0 where
  pub before : List Layer
  pub after : List Layer
  pub there : all ≡ before ++ layer ∷ after
  pub distinct : IsDistinct same_layer before
  pub earlier : Contains before layer

-- the texts say the view, no two pairs have the same source, and a window has at least one square
pub record IsViewOf (map_text window_text : Option (List ℕ)) (view : PlainView) : Type 0 where
  pub says : IsReadingOf map_text window_text view
  pub distinct : IsDistinct same_layer (sources view.pairs)
  pub squares : ¬ IsEmptyWindow view.window

-- the texts have the fault, and none of those above it here
abbrev pub IsFaultOf : Option (List ℕ) → Option (List ℕ) → ViewFault → Type 0
IsFaultOf map_text window_text MapText = (pairs : List LayerPair) → ¬ IsMapOf map_text pairs
IsFaultOf map_text window_text WindowText =
    ((pairs : List LayerPair) × IsMapOf map_text pairs) × ((window : Option Window) → ¬ IsWindowOf window_text window)
IsFaultOf map_text window_text (MapTwice layer) =
    (view : PlainView) × IsReadingOf map_text window_text view × IsFirstTwice (sources view.pairs) layer
IsFaultOf map_text window_text EmptyWindow =
    (view : PlainView) × IsReadingOf map_text window_text view × IsDistinct same_layer (sources view.pairs)
    × IsEmptyWindow view.window
