use Rattle.std.proofs.Common.{◌≡◌, ℕ, ◌<◌, [], Some}
use Rattle.std.specs.List.{slice_get}
use Rattle.lvl_cells.specs.declared.walk.Mark.TheVariants.{New}
use Rattle.lvl_cells.specs.inside.Walking.{IsWalk}
use Rattle.lvl_cells.proofs.order.walk_all.Given as goal

-- between roots the path of the walk is empty, and no cell so far is new
abbrev pub invariant-loop-root : goal.invariant-loop-root
invariant-loop-root l = record {
  walk : IsWalk l.targets l.marks l.path.items l.finished.items;
  resting : l.path.items ≡ [];
  seen : (k : ℕ) → k < l.root → ¬ (slice_get l.marks k ≡ Some New);
}
