-- The state of a sweep: which edges have ended, which are alive, and which are still to come.
use Rattle.std.specs.Prelude.{◌≡◌, ℕ, ◌+◌, ◌<◌, ◌≤◌, ◌^◌, List, length, ℤ, ◌<ℤ◌, ◌≤ℤ◌, int_lt, count_by, slice_index_or}
use Rattle.std.specs.Prelude.{All, [], Option}
use Rattle.std.specs.List.{AllWithin}
use Rattle.lvl_sweep.specs.declared.edge.Edge.{Edge}
use Rattle.lvl_sweep.specs.declared.strips.Strips.{Strips}
use Rattle.lvl_sweep.specs.inside.Edges.{AreAtRest, IsBeginOf}
use Rattle.lvl_sweep.specs.inside.Alive.{IsNoLater}
use Rattle.lvl_sweep.specs.inside.Rows.{Balanced, alive_at, row_at}
use Rattle.lvl_sweep.specs.inside.Runs.{RiseWithin, IsEndOf}

-- the edges are those of closed rings, those still to come are in order, and there is a count for each ring
pub record AreStrips (s : Strips) : Type 0 where
  pub order : (i j : ℕ) (d : Edge) → s.next ≤ i → i < j → j < length s.edges.items
      → IsNoLater (slice_index_or s.edges.items i d) (slice_index_or s.edges.items j d)
  pub full : All (λ e. e.low <ℤ e.high) s.edges.items
  pub numbers : All (λ e. e.ring < length s.windings.counts.items) s.edges.items
  pub few : length s.edges.items < 2 ^ 63
  pub balanced : (y : ℤ) → Balanced (alive_at s.edges.items y)
  pub within : (s.from ≤ s.next) × (s.next ≤ length s.edges.items)
  pub rising : RiseWithin s.edges.items s.from s.next
  pub rest : AreAtRest s.windings

-- in row y the edges from index `from` up to `next` are alive, those before have ended, those after are still to come
pub record IsAt (s : Strips) : Type 0 where
  pub strips : AreStrips s
  pub ended : AllWithin (λ e. e.high ≤ℤ s.y) s.edges.items 0 s.from
  pub begun : AllWithin (λ e. e.low ≤ℤ s.y) s.edges.items 0 s.next
  pub alive : AllWithin (λ e. s.y <ℤ e.high) s.edges.items s.from s.next
  pub coming : AllWithin (λ e. s.y <ℤ e.low) s.edges.items s.next (length s.edges.items)
  pub top : (begins : Option ℤ) → IsBeginOf s.edges.items s.next begins
      → IsEndOf s.edges.items s.from s.next begins s.top

-- the strips can go on to row y: no edge that hasn't begun begins below y, and those before index `from` end by y
pub record CanLoad (s : Strips) (y : ℤ) : Type 0 where
  pub strips : AreStrips s
  pub ended : AllWithin (λ e. e.high ≤ℤ y) s.edges.items 0 s.from
  pub begun : AllWithin (λ e. e.low ≤ℤ y) s.edges.items 0 s.next
  pub coming : AllWithin (λ e. y ≤ℤ e.low) s.edges.items s.next (length s.edges.items)

-- the measure of a sweep: the number of edges that begin above y, and of those that end above y
abbrev pub left : List Edge → ℤ → ℕ
left es y = count_by (λ e. int_lt y e.low) es + count_by (λ e. int_lt y e.high) es

-- the strip ends at t: the rows from the present one up to t have the same intervals
pub record IsTop (s : Strips) (t : ℤ) : Type 0 where
  pub above : s.y <ℤ t
  pub same : (v : ℤ) → s.y ≤ℤ v → v <ℤ t → row_at s.edges.items v ≡ row_at s.edges.items s.y
  pub ready : CanLoad s t
  pub fewer : left s.edges.items t < left s.edges.items s.y

-- no row from the present one on has intervals
abbrev pub IsOver : Strips → Type 0
IsOver s = (v : ℤ) → s.y ≤ℤ v → row_at s.edges.items v ≡ []
