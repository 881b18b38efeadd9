use Rattle.std.proofs.Common.{◌≡◌, Some, slice_get, take, true}
use Rattle.lvl_cells.specs.Cells.{PlainCell, Rings}
use Rattle.lvl_changed.specs.inside.Arrays.{every_place}
use Rattle.lvl_changed.specs.inside.Opening.{Adds, IsUnder}
use Rattle.lvl_changed.specs.inside.Placements.{PlacedCover, ReferencesCover}
use Rattle.lvl_changed.proofs.opening.open_references.Given as goal

-- what the references so far place is added
abbrev pub invariant-loop-j : goal.invariant-loop-j
invariant-loop-j l =
    (c : PlainCell Rings) → slice_get l.checked.cells l.array.cell ≡ Some c
    → Adds (PlacedCover l.checked.cells (every_place l.initial.opened.items))
    (PlacedCover l.checked.cells (every_place l.opened.items))
    (λ layer. IsUnder l.array (ReferencesCover l.checked.cells (take l.j c.references) layer)) true
