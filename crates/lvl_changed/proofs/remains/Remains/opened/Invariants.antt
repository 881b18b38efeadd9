use Rattle.std.proofs.Common.{◌↔◌, ◌⊎◌, length}
use Rattle.lvl_grid.specs.declared.point.Square.{Square}
use Rattle.lvl_names.specs.declared.layer.Layer.{Layer}
use Rattle.lvl_view.specs.Moved.{IsMoved}
use Rattle.lvl_changed.specs.inside.Arrays.{every_place}
use Rattle.lvl_changed.specs.inside.Placements.{PlacedCover}
use Rattle.lvl_changed.specs.inside.Remains.{RemainsDraw}
use Rattle.lvl_changed.proofs.remains.Remains.opened.Given as goal

-- what was opened covers, with the arrays that are left, what all did
abbrev pub invariant-loop-array : goal.invariant-loop-array
invariant-loop-array l =
    (layer : Layer) (s : Square)
    → (RemainsDraw l.pair l.opened layer s
    ⊎ IsMoved l.pair.view.now.pairs (PlacedCover l.pair.second.now.cells (every_place l.arrays.items)) layer s)
    ↔ RemainsDraw l.pair l.fn.self layer s

-- fewer arrays are left after each
abbrev pub decreases-loop-array : goal.decreases-loop-array
decreases-loop-array l = length l.arrays.items
