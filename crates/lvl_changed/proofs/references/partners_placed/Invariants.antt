use Rattle.std.proofs.Common.{◌≡◌, Some, slice_get, take}
use Rattle.lvl_cells.specs.Cells.{PlainCell, Rings}
use Rattle.lvl_compare.specs.declared.pair.Pair.{Pair}
use Rattle.lvl_changed.specs.inside.Areas.{AlikeOutside, Grows}
use Rattle.lvl_changed.specs.inside.Pairs.{AreFoundIn}
use Rattle.lvl_changed.specs.inside.Placements.{ReferencesCover}
use Rattle.lvl_changed.specs.inside.Remains.{PartnersDraw}
use Rattle.lvl_changed.proofs.references.partners_placed.Given as goal

-- outside of the area what is placed so far covers what the references so far do
abbrev pub invariant-loop-j : goal.invariant-loop-j
invariant-loop-j l = record {
  covers : (pair : Pair) → AreFoundIn pair l.known → l.checked.cells ≡ pair.first.now.cells → (c : PlainCell Rings)
      → slice_get l.checked.cells l.cell ≡ Some c
      → AlikeOutside l.area (ReferencesCover l.checked.cells (take l.j c.references)) (PartnersDraw pair l.partners);
  kept : Grows l.initial.area l.area;
}
