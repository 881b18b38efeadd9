use Rattle.std.proofs.Common.{take}
use Rattle.lvl_changed.specs.inside.Rows.{AreSplit}
use Rattle.lvl_changed.proofs.rows.split_alone.Given as goal

-- those of the arrays so far are split that aren't among the others
abbrev pub invariant-loop-array : goal.invariant-loop-array
invariant-loop-array l = AreSplit (take l.array-index l.arrays) l.others l.split.items
