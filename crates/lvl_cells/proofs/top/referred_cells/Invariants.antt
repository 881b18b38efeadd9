use Rattle.std.proofs.Common.{◌≡◌, length, vec_len}
use Rattle.lvl_cells.proofs.Roots.{AreMarkedBefore}
use Rattle.lvl_cells.proofs.top.referred_cells.Given as goal

abbrev pub invariant-loop-cell : goal.invariant-loop-cell
invariant-loop-cell l = record {
  long : vec_len l.referred ≡ length l.targets;
  marked : AreMarkedBefore l.referred.items l.targets l.cell;
}
