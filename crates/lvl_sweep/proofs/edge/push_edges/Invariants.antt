use Rattle.std.proofs.Common.{◌≡◌, ◌+◌, ◌<◌, ◌<ℤ◌, ◌==◌, ℕ, All, drop, count_by, cond}
use Rattle.lvl_grid.specs.declared.point.Square.{Square}
use Rattle.lvl_grid.specs.Winding.{edges, path_edges, goes_up, goes_down}
use Rattle.lvl_sweep.specs.Bands.{is_vertical}
use Rattle.lvl_sweep.specs.inside.Alive.{any_edge, rises, falls}
use Rattle.lvl_sweep.proofs.edge.push_edges.Given as goal

-- the edges appended so far and those still to come are all edges
abbrev pub invariant-loop-point : goal.invariant-loop-point
invariant-loop-point l = record {
  rising : (r : ℕ) (s : Square) → count_by (rises r s) l.edges.items + cond (l.ring == r)
      (count_by (goes_up s) (path_edges l.previous (drop l.point-index l.points))) 0 ≡ count_by (rises r s)
      l.fn.edges.items + cond (l.ring == r) (count_by (goes_up s) (edges l.points)) 0;
  falling : (r : ℕ) (s : Square) → count_by (falls r s) l.edges.items + cond (l.ring == r)
      (count_by (goes_down s) (path_edges l.previous (drop l.point-index l.points))) 0 ≡ count_by (falls r s)
      l.fn.edges.items + cond (l.ring == r) (count_by (goes_down s) (edges l.points)) 0;
  many : count_by any_edge l.edges.items
      + count_by is_vertical (path_edges l.previous (drop l.point-index l.points)) ≡ count_by any_edge l.fn.edges.items
      + count_by is_vertical (edges l.points);
  numbers : (n : ℕ) → l.ring < n → All (λ e. e.ring < n) l.fn.edges.items → All (λ e. e.ring < n) l.edges.items;
  full : All (λ e. e.low <ℤ e.high) l.fn.edges.items → All (λ e. e.low <ℤ e.high) l.edges.items;
}
