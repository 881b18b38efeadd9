use Rattle.std.proofs.Common.{◌≡◌, length, vec_len}
use Rattle.lvl_flat.specs.Boxes.{AreBoxes}
use Rattle.lvl_flat.proofs.boxes.Boxes.new.Given as goal

-- the boxes that are known hold what their cells place
abbrev pub invariant-loop-i : goal.invariant-loop-i
invariant-loop-i l = record {
  long : vec_len l.known ≡ length l.checked.cells;
  known : AreBoxes l.checked.cells l.known.items;
}
