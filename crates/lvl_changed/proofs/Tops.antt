-- Cells that are compared as tops.
use Rattle.std.proofs.Common.{◌≡◌, ◌↔◌, ℕ, List, Option, Some, None, false, sym, subst}
use Rattle.std.specs.Prelude.{is_some, option_map}
use Rattle.lvl_grid.specs.declared.point.Square.{Square}
use Rattle.lvl_names.specs.declared.layer.Layer.{Layer}
use Rattle.lvl_cells.specs.Checks.{Settled}
use Rattle.lvl_flat.specs.Flattened.{CoversAt, TopCovers}
use Rattle.lvl_view.specs.declared.map.LayerPair.{LayerPair}
use Rattle.lvl_view.specs.Moved.{IsMoved}
use Rattle.lvl_changed.specs.declared.area.Area.{Area}
use Rattle.lvl_changed.specs.declared.changes.Changes.{Changes}
use Rattle.lvl_changed.specs.Changed.{DrawSameBut, IsChange}
use Rattle.lvl_changed.specs.inside.Areas.{AlikeOutside, IsIn}

-- what is absent is absent under a map
pub none_mapped : {X Y : Type 0} (f : X → Y) (o : Option X) (v : Option Y) → option_map f o ≡ v → is_some o ≡ false
    → v ≡ None
none_mapped f None v is none = sym is
none_mapped f (Some x) v is none = cc

-- both layouts draw the same, if they do so but for the changes
abbrev pub AreSameIf : List LayerPair → Changes → Settled → Settled → Type 0
AreSameIf pairs changes x y =
    DrawSameBut changes (TopCovers x) (IsMoved pairs (TopCovers y)) → (l : Layer) (s : Square)
    → TopCovers x l s ↔ IsMoved pairs (TopCovers y) l s

-- the library with another top
abbrev pub rooted : Settled → ℕ → Settled
rooted z k = record { cells = z.cells; top = k; order = z.order }

-- cells draw the same if they do so as tops
pub tops_same : (pairs : List LayerPair) (area : Area) (changes : Changes) (first second x y : Settled) (i j : ℕ)
    → x ≡ rooted first i → y ≡ rooted second j
    → ((l : Layer) (s : Square) → IsIn area l s → IsChange changes l s) → AreSameIf pairs changes x y
    → AlikeOutside area (CoversAt first.cells i) (IsMoved pairs (CoversAt second.cells j)) → (l : Layer) (s : Square)
    → CoversAt first.cells i l s ↔ IsMoved pairs (CoversAt second.cells j) l s
tops_same pairs area changes first second x y i j is at has same alike =
    let both : AreSameIf pairs changes (rooted first i) (rooted second j) =
    subst (λ z. AreSameIf pairs changes z (rooted second j)) is (subst (λ z. AreSameIf pairs changes x z) at same) in
    both (λ l s out. alike l s (λ h. out (has l s h)))
