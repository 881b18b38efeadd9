-- Two layouts that don't differ.
use Rattle.std.proofs.Common.{◌≡◌, ◌↔◌, List, [], refl, subst}
use Rattle.lvl_grid.specs.declared.point.Square.{Square}
use Rattle.lvl_names.specs.declared.layer.Layer.{Layer}
use Rattle.lvl_view.specs.Moved.{IsMoved}
use Rattle.lvl_view.specs.declared.map.LayerPair.{LayerPair}

-- without pairs no Layer is mapped to another
pub moved_none : (pairs : List LayerPair) → pairs ≡ [] → (Q : Layer → Square → Type 0) (l : Layer) (s : Square)
    → IsMoved pairs Q l s ↔ Q l s
moved_none pairs none Q l s = (
  λ m. subst (λ layer. Q layer s) (rw none at m.is_target) m.covers,
  λ h. record { source = l; is_target = rw none refl; covers = h },
)
