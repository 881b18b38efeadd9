-- References of two cells that cover the same, as far as they are looked at.
use Rattle.std.specs.Prelude.{◌≡◌, ℕ, slice_get, take, Some}
use Rattle.lvl_cells.specs.Cells.{PlainCell, Rings}
use Rattle.lvl_view.specs.Moved.{IsMoved}
use Rattle.lvl_compare.specs.declared.pair.Pair.{Pair}
use Rattle.lvl_changed.specs.declared.area.Area.{Area}
use Rattle.lvl_changed.specs.inside.Areas.{AlikeOutside}
use Rattle.lvl_changed.specs.inside.Placements.{ReferencesCover}

-- outside of the area, the first n references of cell i of the first library cover the same squares as as many of
-- cell j of the second under the map of Layers
abbrev pub ReferAlikeUpTo : ℕ → Area → Pair → ℕ → ℕ → Type 0
ReferAlikeUpTo n w pair i j =
    (c d : PlainCell Rings) → slice_get pair.first.now.cells i ≡ Some c → slice_get pair.second.now.cells j ≡ Some d
    → AlikeOutside w (ReferencesCover pair.first.now.cells (take n c.references))
    (IsMoved pair.view.now.pairs (ReferencesCover pair.second.now.cells (take n d.references)))
