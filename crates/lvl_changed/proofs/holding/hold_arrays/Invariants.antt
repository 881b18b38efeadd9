use Rattle.std.proofs.Common.{take}
use Rattle.lvl_changed.specs.inside.Areas.{Grows}
use Rattle.lvl_changed.specs.inside.Arrays.{every_place}
use Rattle.lvl_changed.specs.inside.Placements.{PlacedCover}
use Rattle.lvl_changed.proofs.Missed.{Misses}
use Rattle.lvl_changed.proofs.holding.hold_arrays.Given as goal

-- the arrays so far cover nothing outside of the area
abbrev pub invariant-loop-array : goal.invariant-loop-array
invariant-loop-array l = record {
  held : Misses l.area l.view.pairs (PlacedCover l.library.cells (every_place (take l.array-index l.arrays)));
  kept : Grows l.initial.area l.area;
}
