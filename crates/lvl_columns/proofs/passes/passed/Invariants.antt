use Rattle.std.proofs.Common.{◌-◌, length}
use Rattle.lvl_columns.proofs.passes.passed.Given as goal

abbrev pub decreases-loop-count : goal.decreases-loop-count
decreases-loop-count l = length l.initial.ordinates - l.count
