use Rattle.std.proofs.Common.{take}
use Rattle.lvl_flat.specs.Boxes.{AreBoxes}
use Rattle.lvl_flat.specs.inside.Bounds.{Widens, HoldsPicks}
use Rattle.lvl_flat.proofs.boxes.hold_references.Given as goal

-- what the references so far lead to is in the box
abbrev pub invariant-loop-j : goal.invariant-loop-j
invariant-loop-j l = record {
  wider : Widens l.fn.bounds l.held;
  held : AreBoxes l.checked.cells l.known → HoldsPicks l.checked.cells l.held (take l.j l.place-inside.references);
}
