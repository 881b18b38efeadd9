-- The edges that cross a row, and the vertical edges of rings.
use Rattle.std.specs.Prelude.{◌≡◌, ℕ, ◌<◌, Bool, ◌&&◌, ◌==◌, not, List, [], length, ℤ, ◌<ℤ◌, ◌≤ℤ◌, int_lt, int_le}
use Rattle.std.specs.Prelude.{count_by, slice_index_or, All, Option, None, Some, false, true}
use Rattle.std.specs.List.{sum_by, AllPairs}
use Rattle.lvl_grid.specs.declared.point.Point.{Point}
use Rattle.lvl_grid.specs.declared.point.Square.{Square}
use Rattle.lvl_grid.specs.Winding.{edges, goes_up, goes_down}
use Rattle.lvl_sweep.specs.declared.edge.Edge.{Edge}

-- the edge crosses row y
abbrev pub alive : ℤ → Edge → Bool
alive y e = int_le e.low y && int_lt y e.high

-- both lists have the same edges, each equally often
abbrev pub HasSame : List Edge → List Edge → Type 0
HasSame es fs = (f : Edge → ℕ) → sum_by f fs ≡ sum_by f es

-- the edge is one of ring r, crosses the row of the square right of it, and goes up
abbrev pub rises : ℕ → Square → Edge → Bool
rises r s e = alive s.y e && (int_lt s.x e.x && ((e.ring == r) && e.up))

-- the edge is one of ring r, crosses the row of the square right of it, and goes down
abbrev pub falls : ℕ → Square → Edge → Bool
falls r s e = alive s.y e && (int_lt s.x e.x && ((e.ring == r) && not e.up))

-- the edges are the vertical edges of the rings, each with the index of its ring
pub record AreEdgesOf (rings : List (List Point)) (es : List Edge) : Type 0 where
  pub rising : (r : ℕ) (s : Square) → r < length rings
      → count_by (goes_up s) (edges (slice_index_or rings r [])) ≡ count_by (rises r s) es
  pub falling : (r : ℕ) (s : Square) → r < length rings
      → count_by (goes_down s) (edges (slice_index_or rings r [])) ≡ count_by (falls r s) es
  pub numbers : All (λ e. e.ring < length rings) es
  pub full : All (λ e. e.low <ℤ e.high) es

-- a test that is true of each edge
abbrev pub any_edge : Edge → Bool
any_edge e = true

-- there is an edge, and the test is true of it
abbrev pub edge_is : (Edge → Bool) → Option Edge → Bool
edge_is p None = false
edge_is p (Some e) = p e

-- the order of edges: by the ordinate at which they begin, then by abscissa
abbrev pub IsNoLater : Edge → Edge → Type 0
IsNoLater d e = (d.low ≤ℤ e.low) × (d.low ≡ e.low → d.x ≤ℤ e.x)

abbrev pub AreInOrder : List Edge → Type 0
AreInOrder es = AllPairs IsNoLater es
