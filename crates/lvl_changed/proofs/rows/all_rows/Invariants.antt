use Rattle.std.proofs.Common.{◌↔◌, List}
use Rattle.lvl_grid.specs.declared.point.Square.{Square}
use Rattle.lvl_names.specs.declared.layer.Layer.{Layer}
use Rattle.lvl_cells.specs.Cells.{PlainCell, Rings}
use Rattle.lvl_changed.specs.inside.Arrays.{every_place}
use Rattle.lvl_changed.specs.inside.Placements.{PlacedCover}
use Rattle.lvl_changed.specs.inside.Rows.{RowsCover}
use Rattle.lvl_changed.proofs.rows.all_rows.Given as goal

-- the rows so far are added
abbrev pub invariant-loop-j : goal.invariant-loop-j
invariant-loop-j l =
    (cells : List (PlainCell Rings)) (layer : Layer) (s : Square)
    → PlacedCover cells (every_place l.all.items) layer s ↔ RowsCover cells l.array l.rows l.j layer s
