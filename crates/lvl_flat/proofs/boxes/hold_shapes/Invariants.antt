use Rattle.std.proofs.Common.{All, take}
use Rattle.lvl_flat.specs.inside.Bounds.{Widens, HoldsOwn}
use Rattle.lvl_flat.proofs.boxes.hold_shapes.Given as goal

-- the shapes so far are in the box
abbrev pub invariant-loop-i : goal.invariant-loop-i
invariant-loop-i l = record { wider : Widens l.fn.bounds l.held; held : All (HoldsOwn l.held) (take l.i l.shapes) }
