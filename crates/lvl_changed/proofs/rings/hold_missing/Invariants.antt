use Rattle.std.proofs.Common.{take}
use Rattle.lvl_grid.specs.declared.point.Square.{Square}
use Rattle.lvl_grid.specs.Winding.{SomeCovers}
use Rattle.lvl_changed.specs.inside.Windows.{Has, Widens}
use Rattle.lvl_changed.proofs.rings.hold_missing.Given as goal

-- outside of the windows the others cover what the rings so far do
abbrev pub invariant-loop-i : goal.invariant-loop-i
invariant-loop-i l = record {
  held : (s : Square) → (¬ Has l.windows s) → SomeCovers (take l.i l.rings) s → SomeCovers l.others s;
  kept : Widens l.initial.windows l.windows;
}
