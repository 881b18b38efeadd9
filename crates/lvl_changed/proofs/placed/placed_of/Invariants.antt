use Rattle.std.proofs.Common.{◌≡◌, ◌↔◌, Some, slice_get, take}
use Rattle.lvl_grid.specs.declared.point.Square.{Square}
use Rattle.lvl_names.specs.declared.layer.Layer.{Layer}
use Rattle.lvl_cells.specs.Cells.{PlainCell, Rings}
use Rattle.lvl_changed.specs.inside.Arrays.{all_places}
use Rattle.lvl_changed.specs.inside.Placements.{PlacedCover, ReferencesCover}
use Rattle.lvl_changed.proofs.placed.placed_of.Given as goal

-- what is placed so far covers what the references so far do
abbrev pub invariant-loop-j : goal.invariant-loop-j
invariant-loop-j l =
    (c : PlainCell Rings) → slice_get l.checked.cells l.cell ≡ Some c → (layer : Layer) (s : Square)
    → PlacedCover l.checked.cells (all_places l.placed) layer s
    ↔ ReferencesCover l.checked.cells (take l.j c.references) layer s
