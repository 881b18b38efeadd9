use Rattle.std.proofs.Common.{◌≤◌, ◌<◌, ◌+◌, ◌-◌, ◌*◌}
use Rattle.lvl_flat.specs.inside.Passing.{AreMissed}
use Rattle.lvl_flat.proofs.missed.missed_rows.Given as goal

-- the lower number of rows misses
abbrev pub invariant-loop-high : goal.invariant-loop-high
invariant-loop-high l = record {
  some : 0 < l.low;
  order : l.low ≤ l.high;
  inside : l.high ≤ l.count;
  missed : AreMissed l.shifts l.from (l.from + l.low * l.row) l.inner l.map l.window;
}

-- the numbers get closer
abbrev pub decreases-loop-high : goal.decreases-loop-high
decreases-loop-high l = l.high - l.low
