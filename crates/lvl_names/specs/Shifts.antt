-- Lists of shifts, written out or as a lattice. A shift is a displacement in grid steps.
use Rattle.std.specs.Prelude.{◌≡◌, ℕ, ◌*◌, ◌/◌, ◌%◌, ◌<◌, ◌≤◌, List, [], ◌∷◌, map, pos, ◌+ℤ◌, ◌*ℤ◌, ◌≤ℤ◌, All}
use Rattle.std.specs.Prelude.{slice_get}
use Rattle.std.specs.Prelude.{Some}
use Rattle.std.specs.List.{range_with_len}
use Rattle.lvl_grid.specs.declared.point.Point.{Point}
use Rattle.lvl_grid.specs.Turn.{FitsPoint}

-- the displacement of i steps by a and j steps by b
abbrev pub steps : Point → ℕ → Point → ℕ → Point
steps a i b j = record { x = (pos i *ℤ a.x) +ℤ (pos j *ℤ b.x); y = (pos i *ℤ a.y) +ℤ (pos j *ℤ b.y) }

-- the shifts i * a + j * b with i < m and j < n, ordered by j, then by i
abbrev pub lattice : Point → ℕ → Point → ℕ → List Point
lattice a m b n = map (λ k. steps a (k % m) b (k / m)) (range_with_len 0 (m * n))

-- the greatest number of shifts of a lattice, 2 ^ 60 (own rule)
abbrev pub most_places : ℕ
most_places = 1152921504606846976

-- the lattice may be kept: both counts are at least 1, it has at most `most_places` shifts, and each fits in
-- 64 signed bits
pub record IsLattice (a : Point) (m : ℕ) (b : Point) (n : ℕ) : Type 0 where
  pub columns : 0 < m
  pub rows : 0 < n
  pub few : m * n ≤ most_places
  pub fit : All FitsPoint (lattice a m b n)

-- the list isn't empty, and its first shift is zero
abbrev pub StartsAtZero : List Point → Type 0
StartsAtZero shifts = slice_get shifts 0 ≡ Some (record { x = pos 0; y = pos 0 })

-- the list of the zero shift alone
abbrev pub one_place : List Point
one_place = record { x = pos 0; y = pos 0 } ∷ []

-- e is in the rectangle from its lower left corner `low` to its upper right corner `high`, borders included
pub record IsBetween (low high e : Point) : Type 0 where
  pub left : low.x ≤ℤ e.x
  pub right : e.x ≤ℤ high.x
  pub below : low.y ≤ℤ e.y
  pub above : e.y ≤ℤ high.y
