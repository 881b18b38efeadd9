use Rattle.std.proofs.Common.{◌≡◌, Some}
use Rattle.std.specs.List.{slice_get}
use Rattle.lvl_cells.specs.declared.walk.Mark.TheVariants.{New}
use Rattle.lvl_cells.specs.inside.Walking.{IsWalk, NoneBecomesNew, work_left}
use Rattle.lvl_cells.proofs.walk.walk_from.Given as goal

abbrev pub invariant-loop-marks : goal.invariant-loop-marks
invariant-loop-marks l = record {
  walk : IsWalk l.targets l.marks l.path.items l.finished.items;
  on : NoneBecomesNew l.fn.marks l.marks;
  seen : ¬ (slice_get l.marks l.root ≡ Some New);
}

abbrev pub decreases-loop-marks : goal.decreases-loop-marks
decreases-loop-marks l = work_left l.targets l.marks l.path.items
