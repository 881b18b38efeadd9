use Rattle.std.proofs.Common.{take}
use Rattle.lvl_grid.specs.declared.point.Square.{Square}
use Rattle.lvl_grid.specs.Turn.{image_square}
use Rattle.lvl_compare.specs.Parts.{SomeHas}
use Rattle.lvl_changed.specs.inside.Windows.{Has, Widens}
use Rattle.lvl_changed.proofs.windows.Windows.hold_all_placed.Given as goal

-- the windows so far are added
abbrev pub invariant-loop-window : goal.invariant-loop-window
invariant-loop-window l = record {
  held : (s : Square) → SomeHas (take l.window-index l.held.list.items) s → Has l.self (image_square l.map s);
  kept : Widens l.initial.self l.self;
}
