-- How a list of shifts is stored.
use Rattle.std.specs.Prelude.{ℕ, ◌<◌, ◌≤◌, ◌*◌, ◌-◌, List, map, All, Contains, pos, ℤ, ◌+ℤ◌, ◌*ℤ◌}
use Rattle.std.specs.Prelude.{FitsSigned}
use Rattle.std.specs.Int.{w64}
use Rattle.lvl_grid.specs.declared.point.Point.{Point}
use Rattle.lvl_names.specs.declared.bounded.BoundedList.{BoundedList}
use Rattle.lvl_names.specs.declared.offsets.Kept.{Kept}
use Rattle.lvl_names.specs.declared.offsets.Kept.TheVariants.{List as ByList, Shared as ByShared, Lattice as ByLattice}
use Rattle.lvl_names.specs.Shifts.{lattice, most_places, IsBetween, StartsAtZero}

-- along one axis, i steps by a, j steps by b, and their sum each fit in 64 signed bits
pub record StaysWithin (a : ℤ) (i : ℕ) (b : ℤ) (j : ℕ) : Type 0 where
  pub across : FitsSigned w64 (pos i *ℤ a)
  pub up : FitsSigned w64 (pos j *ℤ b)
  pub both : FitsSigned w64 ((pos i *ℤ a) +ℤ (pos j *ℤ b))

-- there is at least one column and one row, and at most `most_places` shifts
pub record AreFew (m n : ℕ) : Type 0 where
  pub columns : 0 < m
  pub rows : 0 < n
  pub few : m * n ≤ most_places

-- the lattice has at least one and at most `most_places` shifts, and those at three of its corners fit (the fourth
-- is zero)
pub record HasFarCorner (a : Point) (m : ℕ) (b : Point) (n : ℕ) : Type 0 where
  pub counts : AreFew m n
  pub xs : StaysWithin a.x (m - 1) b.x (n - 1)
  pub ys : StaysWithin a.y (m - 1) b.y (n - 1)

-- each coordinate of `low` and `high` is that of at least one shift
pub record IsReached (low high : Point) (shifts : List Point) : Type 0 where
  pub left : Contains (map (λ e. e.x) shifts) low.x
  pub right : Contains (map (λ e. e.x) shifts) high.x
  pub below : Contains (map (λ e. e.y) shifts) low.y
  pub above : Contains (map (λ e. e.y) shifts) high.y

-- `low` and `high` have the least and the greatest coordinates of the shifts
pub record IsBounded (list : BoundedList) : Type 0 where
  pub between : All (IsBetween list.low list.high) list.shifts.items
  pub reached : IsReached list.low list.high list.shifts.items

-- the list of shifts that is stored
abbrev pub kept_shifts : Kept → List Point
kept_shifts (ByList shifts) = shifts.items
kept_shifts (ByShared list) = list.value.shifts.items
kept_shifts (ByLattice a m b n) = lattice a m b n

-- the invariant of stored shifts: the first of a list is zero, a shared list has the right bounds, and a lattice is
-- within the limits
abbrev pub IsKept : Kept → Type 0
IsKept (ByList shifts) = StartsAtZero shifts.items
IsKept (ByShared list) = StartsAtZero list.value.shifts.items × IsBounded list.value
IsKept (ByLattice a m b n) = HasFarCorner a m b n
