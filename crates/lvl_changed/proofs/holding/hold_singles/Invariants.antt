use Rattle.std.proofs.Common.{take}
use Rattle.lvl_changed.specs.inside.Areas.{Grows}
use Rattle.lvl_changed.specs.inside.Placements.{PlacedCover}
use Rattle.lvl_changed.proofs.Missed.{Misses}
use Rattle.lvl_changed.proofs.holding.hold_singles.Given as goal

-- the placements so far cover nothing outside of the area
abbrev pub invariant-loop-placement : goal.invariant-loop-placement
invariant-loop-placement l = record {
  held : Misses l.area l.view.pairs (PlacedCover l.library.cells (take l.placement-index l.placements));
  kept : Grows l.initial.area l.area;
}
