use Rattle.std.proofs.Common.{◌<◌, ◌≤◌, ◌-◌, ℕ, length, get_or}
use Rattle.lvl_flat.proofs.indexes.Indexes.next.Given as goal

-- the indexes before `low` are less than `from`, and those at `high` or later aren't
abbrev pub invariant-loop-low : goal.invariant-loop-low
invariant-loop-low l = record {
  inside : l.high ≤ length l.self;
  order : l.low ≤ l.high;
  less : (k : ℕ) → k < l.low → get_or l.self k 0 < l.from;
  rest : (k : ℕ) → l.high ≤ k → k < length l.self → l.from ≤ get_or l.self k 0;
}

abbrev pub decreases-loop-low : goal.decreases-loop-low
decreases-loop-low l = l.high - l.low
