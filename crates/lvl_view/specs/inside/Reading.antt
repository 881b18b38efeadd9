-- What the steps of reading a view return.
use Rattle.std.specs.Prelude.{◌≡◌, ◌↔◌, ℕ, List, Option}
use Rattle.std.specs.BTreeMap.{BTreeMap}
use Rattle.std.specs.BTreeMap as tree
use Rattle.lvl_names.specs.declared.layer.Layer.{Layer}
use Rattle.lvl_names.specs.contracts.layer.LayerOrd.TheImpl as layer_ord
use Rattle.lvl_grid.specs.declared.point.Window.{Window}
use Rattle.lvl_view.specs.Views.{IsMapOf, IsWindowOf, IsFirstTwice, sources, target_in}
use Rattle.lvl_view.specs.declared.map.LayerPair.{LayerPair}
use Rattle.lvl_view.specs.declared.fault.ViewFault.{ViewFault}
use Rattle.lvl_view.specs.declared.fault.ViewFault.TheVariants.{MapText, WindowText, MapTwice}

-- P holds of the value and of no other
abbrev pub IsAlone : {A : Type 0} → (A → Type 0) → A → Type 0
IsAlone {A} P a = (b : A) → P b ↔ (b ≡ a)

-- for each Layer, the map has the target of the pair whose source it is, or nothing
abbrev pub AreTargets : List LayerPair → BTreeMap Layer Layer → Type 0
AreTargets pairs targets = (layer : Layer) → tree.get (layer_ord.ghosts).cmp targets layer ≡ target_in pairs layer

-- the fault is that the text says no list of pairs
abbrev pub IsMapFault : Option (List ℕ) → ViewFault → Type 0
IsMapFault text MapText = (pairs : List LayerPair) → ¬ IsMapOf text pairs
IsMapFault text _ = ⊥

-- the fault is that the text says no window
abbrev pub IsWindowFault : Option (List ℕ) → ViewFault → Type 0
IsWindowFault text WindowText = (window : Option Window) → ¬ IsWindowOf text window
IsWindowFault text _ = ⊥

-- the fault reports the first source that an earlier pair has
abbrev pub IsTwiceFault : List LayerPair → ViewFault → Type 0
IsTwiceFault pairs (MapTwice layer) = IsFirstTwice (sources pairs) layer
IsTwiceFault pairs _ = ⊥
