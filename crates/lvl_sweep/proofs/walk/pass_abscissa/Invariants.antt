use Rattle.std.proofs.Common.{◌≡◌, ℕ, ◌-◌, ◌<◌, ◌≤◌, length, get_or}
use Rattle.lvl_sweep.specs.declared.edge.Edge.{Edge}
use Rattle.lvl_sweep.specs.inside.Walks.{HasPassed}
use Rattle.lvl_sweep.proofs.walk.pass_abscissa.Given as goal

-- the edges passed are at x
abbrev pub invariant-loop-windings : goal.invariant-loop-windings
invariant-loop-windings l = record {
  passed : HasPassed l.active l.next l.windings;
  rings : length l.windings.counts.items ≡ length l.fn.windings.counts.items;
  from : l.at ≤ l.next;
  same : (k : ℕ) (d : Edge) → l.at ≤ k → k < l.next → (get_or l.active k d).x ≡ l.x;
}

abbrev pub decreases-loop-windings : goal.decreases-loop-windings
decreases-loop-windings l = length l.active - l.next
