-- Sizes of lattices, after they were tested.
use Rattle.std.specs.Prelude.{ℕ, ◌*◌, ◌<◌, ◌≤◌}
use Rattle.lvl_names.specs.Shifts.{most_places}
use Rattle.oasis_values.specs.declared.repetition.Size.{Size}

-- there is at least one place, and no more than a lattice may have
pub record IsFew (m n : ℕ) : Type 0 where
  pub columns : 0 < m
  pub rows : 0 < n
  pub few : m * n ≤ most_places

abbrev pub IsSmall : Size → Type 0
IsSmall s = IsFew s.columns s.rows
