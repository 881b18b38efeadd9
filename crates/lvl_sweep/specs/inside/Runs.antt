-- Ranges of a list of edges, and how two of them are merged. A range has the indexes from one up to another, which is
-- excluded.
use Rattle.std.specs.Prelude.{◌≡◌, ℕ, ◌+◌, ◌-◌, ◌<◌, ◌≤◌, List, length, ℤ, ◌<ℤ◌, ◌≤ℤ◌, slice_index_or, Option, None}
use Rattle.std.specs.Prelude.{Some, ◌⊎◌}
use Rattle.std.specs.List.{AllWithin}
use Rattle.lvl_sweep.specs.declared.edge.Edge.{Edge}
use Rattle.lvl_sweep.specs.declared.merge.Merge.{Merge}

-- both lists have the same edges at the indexes from low up to high
abbrev pub IsSameWithin : List Edge → List Edge → ℕ → ℕ → Type 0
IsSameWithin es fs low high = (k : ℕ) (d : Edge) → low ≤ k → k < high → slice_index_or fs k d ≡ slice_index_or es k d

-- both lists have the same edges from index low on
abbrev pub IsSameFrom : List Edge → List Edge → ℕ → Type 0
IsSameFrom es fs low = (k : ℕ) (d : Edge) → low ≤ k → slice_index_or fs k d ≡ slice_index_or es k d

-- the edges from index low up to high are in order of abscissa
abbrev pub RiseWithin : List Edge → ℕ → ℕ → Type 0
RiseWithin es low high =
    (i j : ℕ) (d : Edge) → low ≤ i → i ≤ j → j < high → (slice_index_or es i d).x ≤ℤ (slice_index_or es j d).x

-- no edge from index i up to j is right of an edge from index p up to q
abbrev pub AreBefore : List Edge → ℕ → ℕ → ℕ → ℕ → Type 0
AreBefore es i j p q =
    (a b : ℕ) (d : Edge) → i ≤ a → a < j → p ≤ b → b < q → (slice_index_or es a d).x ≤ℤ (slice_index_or es b d).x

-- t is the least of the ordinates at which edges from index low up to high end and at which the next one begins
abbrev pub IsEndOf : List Edge → ℕ → ℕ → Option ℤ → Option ℤ → Type 0
IsEndOf es low high begins None = (high ≤ low) × (begins ≡ None)
IsEndOf es low high begins (Some t) =
    AllWithin (λ e. t ≤ℤ e.high) es low high
    × ((b : ℤ) → begins ≡ Some b → t ≤ℤ b)
    × (((k : ℕ) × (low ≤ k) × (k < high) × ((d : Edge) → (slice_index_or es k d).high ≡ t)) ⊎ (begins ≡ Some t))

-- by row y the edges below index `from` have ended, all below index `end` have begun, and those from `next` up to `end`
-- haven't ended; the edges from `from` up to `next` are in order of abscissa, and so are those from `next` up to `end`
pub record IsRenewed (es : List Edge) (y : ℤ) (from next end : ℕ) : Type 0 where
  pub order : (from ≤ next) × (next ≤ end) × (end ≤ length es)
  pub ended : AllWithin (λ e. e.high ≤ℤ y) es 0 from
  pub begun : AllWithin (λ e. e.low ≤ℤ y) es 0 end
  pub fresh : AllWithin (λ e. y <ℤ e.high) es next end
  pub rising : RiseWithin es from next
  pub rising_fresh : RiseWithin es next end

-- the state of a merge at row y: no edge that is put is left of one that is still to be put, and all other edges below
-- index `end` have ended
pub record IsMerging (es : List Edge) (y : ℤ) (m : Merge) : Type 0 where
  pub low : m.low ≤ m.fresh
  pub fresh : m.fresh ≤ m.from
  pub from : m.from ≤ m.alive
  pub gap : m.fresh + m.alive ≤ m.first + m.low
  pub first : m.first ≤ m.end
  pub end : m.end ≤ length es
  pub begun : AllWithin (λ e. e.low ≤ℤ y) es 0 m.end
  pub ended : AllWithin (λ e. e.high ≤ℤ y) es 0 m.low
  pub ended_between : AllWithin (λ e. e.high ≤ℤ y) es m.fresh m.from
  pub ended_after : AllWithin (λ e. e.high ≤ℤ y) es m.alive m.first
  pub fresh_alive : AllWithin (λ e. y <ℤ e.high) es m.low m.fresh
  pub put_alive : AllWithin (λ e. y <ℤ e.high) es m.first m.end
  pub rising_fresh : RiseWithin es m.low m.fresh
  pub rising : RiseWithin es m.from m.alive
  pub rising_put : RiseWithin es m.first m.end
  pub fresh_before : AreBefore es m.low m.fresh m.first m.end
  pub before : AreBefore es m.from m.alive m.first m.end

-- of the edges still to be put, the last by abscissa is one that begins
abbrev pub AreFresh : List Edge → Merge → Type 0
AreFresh es m =
    (m.low < m.fresh) × (m.from < m.alive → (d : Edge) → (slice_index_or es (m.alive - 1) d).x ≤ℤ (slice_index_or es
    (m.fresh - 1) d).x)

-- of the edges still to be put, the last by abscissa is one that was alive
abbrev pub AreActive : List Edge → Merge → Type 0
AreActive es m =
    (m.from < m.alive) × (m.low < m.fresh → (d : Edge) → (slice_index_or es (m.fresh - 1) d).x ≤ℤ (slice_index_or es
    (m.alive - 1) d).x)
