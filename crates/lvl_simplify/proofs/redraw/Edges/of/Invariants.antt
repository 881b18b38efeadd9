use Rattle.std.proofs.Common.{◌≡◌, ◌+ℤ◌, ◌≤ℤ◌, drop}
use Rattle.lvl_grid.specs.declared.point.Square.{Square}
use Rattle.lvl_grid.specs.Winding.{path_edges, winding}
use Rattle.lvl_simplify.specs.Redraw.{edges_winding}
use Rattle.lvl_simplify.proofs.Turns.{net}
use Rattle.lvl_simplify.proofs.redraw.Edges.of.Given as goal

-- the edges taken so far and those still to come have the winding of the ring
abbrev pub invariant-loop-point : goal.invariant-loop-point
invariant-loop-point l =
    (s : Square)
    → l.left ≤ℤ s.x
    → edges_winding s l.right l.edges +ℤ net s (path_edges l.previous (drop l.point-index l.ring)) ≡ winding l.ring s
