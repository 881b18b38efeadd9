use Rattle.std.proofs.Common.{◌≡◌, ◌++◌}
use Rattle.lvl_compare.specs.declared.pair.Pair.{Pair}
use Rattle.lvl_changed.specs.inside.Areas.{Grows}
use Rattle.lvl_changed.specs.inside.Arrays.{every_place}
use Rattle.lvl_changed.specs.inside.Pairs.{AreFoundIn}
use Rattle.lvl_changed.specs.inside.Placements.{PlacedCover}
use Rattle.lvl_changed.specs.inside.Remains.{AddsOutside, PartnersDraw}
use Rattle.lvl_changed.proofs.references.Partners.add_all.Given as goal

-- the arrays so far are added
abbrev pub invariant-loop-array : goal.invariant-loop-array
invariant-loop-array l = record {
  all : l.yielded ++ l.array-iterator.rest.items ≡ l.fn.arrays.items;
  added : (pair : Pair) → AreFoundIn pair l.known
      → AddsOutside l.area (PartnersDraw pair l.initial.self) (PartnersDraw pair l.self)
      (PlacedCover pair.first.now.cells (every_place l.yielded));
  kept : Grows l.initial.area l.area;
}
