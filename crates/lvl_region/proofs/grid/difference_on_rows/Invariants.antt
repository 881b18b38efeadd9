use Rattle.std.proofs.Common.{length, take, ◌+◌, ◌-◌}
use Rattle.lvl_region.specs.Agree.{AgreeOnRows}
use Rattle.lvl_region.proofs.grid.difference_on_rows.Given as goal

-- the two agree on the rows of both lists so far
abbrev pub invariant-loop-y : goal.invariant-loop-y
invariant-loop-y l = record {
  ours : AgreeOnRows l.a l.b (take l.i l.ours);
  theirs : AgreeOnRows l.a l.b (take l.j l.theirs);
}

abbrev pub decreases-loop-y : goal.decreases-loop-y
decreases-loop-y l = (length l.ours - l.i) + (length l.theirs - l.j)
