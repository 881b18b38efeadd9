-- Vertical edges, and windings counted from the left up to an abscissa.
use Rattle.std.specs.Prelude.{◌≡◌, ◌≢◌, ℕ, Bool, true, false, ◌&&◌, ◌==◌, not, cond, List, ℤ, pos, negsuc, ◌-ℤ◌, int_le}
use Rattle.std.specs.Prelude.{count_by, All, ◌<◌, ◌≤◌, length, slice_index_or, ◌≤ℤ◌, Option, None, Some, ◌⊎◌}
use Rattle.std.specs.Ordering.{int_eq}
use Rattle.lvl_sweep.specs.declared.edge.Edge.{Edge}
use Rattle.lvl_sweep.specs.declared.windings.Windings.{Windings}

-- what an edge adds to the count of its ring: 1 if it goes up, -1 if it goes down
abbrev pub turn : Bool → ℤ
turn true = pos 1
turn false = negsuc 0

-- 1 if the count isn't 0, else 0
abbrev pub weight : ℤ → ℕ
weight c = cond (int_eq c (pos 0)) 0 1

-- the number of counts that aren't 0
abbrev pub how_many_turn : List ℤ → ℕ
how_many_turn counts = count_by (λ c. not (int_eq c (pos 0))) counts

-- the number of edges of ring r that go up, less the number of those that go down
abbrev pub net : ℕ → List Edge → ℤ
net r es = pos (count_by (λ e. (e.ring == r) && e.up) es) -ℤ pos (count_by (λ e. (e.ring == r) && not e.up) es)

-- the number of edges of ring r at an abscissa of at most z that go up, less the number of those that go down
abbrev pub net_left : ℕ → ℤ → List Edge → ℤ
net_left r z es =
    pos (count_by (λ e. int_le e.x z && ((e.ring == r) && e.up)) es) -ℤ pos
    (count_by (λ e. int_le e.x z && ((e.ring == r) && not e.up)) es)

-- some ring winds round the square at abscissa z
abbrev pub IsInside : List Edge → ℤ → Type 0
IsInside es z = (r : ℕ) × (net_left r z es ≢ pos 0)

-- all counts are 0
pub record AreAtRest (w : Windings) : Type 0 where
  pub counts : All (λ c. c ≡ pos 0) w.counts.items
  pub turning : w.turning ≡ 0

-- y is the lower of two ordinates, the second of which may be missing
abbrev pub IsLower : ℤ → Option ℤ → ℤ → Type 0
IsLower a None y = y ≡ a
IsLower a (Some b) y = (y ≤ℤ a) × (y ≤ℤ b) × ((y ≡ a) ⊎ (y ≡ b))

-- the ordinate at which the edge at index i begins, if there is one
abbrev pub IsBeginOf : List Edge → ℕ → Option ℤ → Type 0
IsBeginOf es i None = length es ≤ i
IsBeginOf es i (Some y) = (i < length es) × ((d : Edge) → (slice_index_or es i d).low ≡ y)
