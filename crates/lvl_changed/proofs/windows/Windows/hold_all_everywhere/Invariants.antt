use Rattle.std.proofs.Common.{take, Contains}
use Rattle.lvl_grid.specs.declared.point.Point.{Point}
use Rattle.lvl_grid.specs.declared.point.Square.{Square}
use Rattle.lvl_grid.specs.Turn.{image_square}
use Rattle.lvl_cells.specs.Cells.{map_at}
use Rattle.lvl_compare.specs.Parts.{SomeHas}
use Rattle.lvl_changed.specs.inside.Arrays.{as_reference}
use Rattle.lvl_changed.specs.inside.Windows.{Has, Widens}
use Rattle.lvl_changed.proofs.windows.Windows.hold_all_everywhere.Given as goal

-- the windows so far are added
abbrev pub invariant-loop-window : goal.invariant-loop-window
invariant-loop-window l = record {
  held : (e : Point) → Contains l.array.shifts e → (s : Square) → SomeHas (take l.window-index l.held.list.items) s
      → Has l.self (image_square (map_at (as_reference l.array) e) s);
  kept : Widens l.initial.self l.self;
}
