use Rattle.std.proofs.Common.{◌≡◌, ◌++◌}
use Rattle.lvl_changed.specs.inside.Arrays.{every_place}
use Rattle.lvl_changed.specs.inside.Placements.{PlaceSame}
use Rattle.lvl_changed.proofs.placed.Placed.into_arrays.Given as goal

-- the placements so far are among the arrays
abbrev pub invariant-loop-cell : goal.invariant-loop-cell
invariant-loop-cell l = record {
  all : l.yielded ++ l.cell-iterator.rest.items ≡ l.fn.self.singles.items;
  same : PlaceSame (every_place l.all.items) (l.yielded ++ every_place l.fn.self.arrays.items);
}
