use Rattle.std.proofs.Common.{◌≡◌, length, vec_len}
use Rattle.lvl_changed.specs.inside.Drawing.{AreDrawnOn}
use Rattle.lvl_changed.proofs.drawing.drawn_by_cells.Given as goal

-- what is known for the cells so far holds
abbrev pub invariant-loop-i : goal.invariant-loop-i
invariant-loop-i l = record {
  long : vec_len l.drawn ≡ length l.checked.cells;
  known : AreDrawnOn l.checked.cells l.drawn.items;
}
