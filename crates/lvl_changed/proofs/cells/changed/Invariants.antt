use Rattle.std.proofs.Common.{◌≡◌, length, vec_len}
use Rattle.lvl_changed.specs.inside.Finding.{AreFound}
use Rattle.lvl_changed.proofs.cells.changed.Given as goal

-- what is known for the cells so far holds
abbrev pub invariant-loop-i : goal.invariant-loop-i
invariant-loop-i l = record {
  long : vec_len l.known ≡ length l.first.cells;
  known : AreFound l.view.pairs l.first.cells l.second.cells l.known.items;
}
