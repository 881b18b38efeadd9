use Rattle.std.proofs.Common.{◌<◌, ◌-◌}
use Rattle.lvl_witness.proofs.lattice.first_turn.Given as goal

-- `low` is below `high`
abbrev pub invariant-loop-high : goal.invariant-loop-high
invariant-loop-high l = record {
  apart : l.low < l.high;
}

-- and they get closer
abbrev pub decreases-loop-high : goal.decreases-loop-high
decreases-loop-high l = l.high - l.low
