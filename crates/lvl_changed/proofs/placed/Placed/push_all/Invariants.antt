use Rattle.std.proofs.Common.{◌≡◌, ◌++◌}
use Rattle.lvl_changed.specs.inside.Arrays.{all_places, every_place, AddsArrays}
use Rattle.lvl_changed.proofs.placed.Placed.push_all.Given as goal

-- the arrays so far are added
abbrev pub invariant-loop-array : goal.invariant-loop-array
invariant-loop-array l = record {
  all : l.yielded ++ l.array-iterator.rest.items ≡ l.fn.arrays.items;
  added : AddsArrays (all_places l.initial.self) (all_places l.self) (every_place l.yielded);
}
