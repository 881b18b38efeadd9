use Rattle.std.proofs.Common.{◌≡◌, ◌+ℤ◌, drop}
use Rattle.lvl_grid.specs.declared.point.Square.{Square}
use Rattle.lvl_grid.specs.Winding.{path_edges, winding}
use Rattle.lvl_simplify.specs.Rows.{IsBetween, IsAtBorder, turning}
use Rattle.lvl_simplify.proofs.Turns.{net}
use Rattle.lvl_simplify.proofs.rows.turns_of.Given as goal

-- the turns of the edges so far and the edges still to come have the winding of the ring
abbrev pub invariant-loop-point : goal.invariant-loop-point
invariant-loop-point l = record {
  previous : IsAtBorder l.left l.right l.previous;
  winds : (s : Square) → IsBetween l.left l.right s
      → turning s.y l.turns.items +ℤ net s (path_edges l.previous (drop l.point-index l.ring)) ≡ winding l.ring s;
}
