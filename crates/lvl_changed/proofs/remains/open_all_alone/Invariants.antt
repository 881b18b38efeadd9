use Rattle.std.proofs.Common.{◌↔◌, ◌⊎◌, length}
use Rattle.lvl_grid.specs.declared.point.Square.{Square}
use Rattle.lvl_names.specs.declared.layer.Layer.{Layer}
use Rattle.lvl_changed.specs.inside.Areas.{Grows, IsIn}
use Rattle.lvl_changed.specs.inside.Arrays.{every_place}
use Rattle.lvl_changed.specs.inside.Pairs.{AreFoundIn}
use Rattle.lvl_changed.specs.inside.Placements.{PlacedCover}
use Rattle.lvl_changed.specs.inside.Remains.{PartnersDraw}
use Rattle.lvl_changed.specs.inside.Shapes.{ShapesCover}
use Rattle.lvl_changed.proofs.remains.open_all_alone.Given as goal

-- what was opened covers, with the arrays that are left, what all did
abbrev pub invariant-loop-array : goal.invariant-loop-array
invariant-loop-array l = record {
  opened : AreFoundIn l.pair l.known → (layer : Layer) (s : Square) → (¬ IsIn l.area layer s)
      → ((ShapesCover l.shapes layer s ⊎ PartnersDraw l.pair l.partners layer s)
      ⊎ PlacedCover l.pair.first.now.cells (every_place l.left.items) layer s)
      ↔ (ShapesCover l.initial.shapes layer s
      ⊎ PlacedCover l.pair.first.now.cells (every_place l.fn.arrays.items) layer s);
  kept : Grows l.initial.area l.area;
}

-- fewer arrays are left after each
abbrev pub decreases-loop-array : goal.decreases-loop-array
decreases-loop-array l = length l.left.items
