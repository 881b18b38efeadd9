use Rattle.std.proofs.Common.{take, Contains}
use Rattle.lvl_grid.specs.declared.point.Point.{Point}
use Rattle.lvl_cells.specs.Cells.{map_at}
use Rattle.lvl_changed.specs.inside.Arrays.{as_reference}
use Rattle.lvl_changed.specs.inside.Windows.{HasPlaced, Widens}
use Rattle.lvl_changed.proofs.windows.Windows.hold_places.Given as goal

-- the windows are added at the places so far
abbrev pub invariant-loop-k : goal.invariant-loop-k
invariant-loop-k l = record {
  held : (e : Point) → Contains (take l.k l.array.shifts) e
      → HasPlaced (map_at (as_reference l.array) e) l.held l.self;
  kept : Widens l.initial.self l.self;
}
