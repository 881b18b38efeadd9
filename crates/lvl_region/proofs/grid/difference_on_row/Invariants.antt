use Rattle.std.proofs.Common.{length, take, ◌+◌, ◌-◌}
use Rattle.lvl_region.specs.Agree.{AgreeOn}
use Rattle.lvl_region.proofs.grid.difference_on_row.Given as goal

-- the two agree at the lines of both lists so far
abbrev pub invariant-loop-x : goal.invariant-loop-x
invariant-loop-x l = record {
  ours : AgreeOn l.a l.b (take l.i l.ours) l.y;
  theirs : AgreeOn l.a l.b (take l.j l.theirs) l.y;
}

abbrev pub decreases-loop-x : goal.decreases-loop-x
decreases-loop-x l = (length l.ours - l.i) + (length l.theirs - l.j)
