use Rattle.std.proofs.Common.{◌≤ℤ◌}
use Rattle.std.specs.List.{AllWithin}
use Rattle.lvl_sweep.proofs.strips.end_of_start.Given as goal

abbrev pub invariant-loop-i : goal.invariant-loop-i
invariant-loop-i l = AllWithin (λ e. e.low ≤ℤ l.y) l.edges l.from l.i
