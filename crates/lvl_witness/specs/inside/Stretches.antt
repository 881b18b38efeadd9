-- Stretches of indexes.
use Rattle.std.specs.Prelude.{ℕ, ◌≤◌}
use Rattle.lvl_witness.specs.declared.stretch.Stretch.{Stretch}

-- the stretch has the index
pub record IsInStretch (s : Stretch) (k : ℕ) : Type 0 where
  pub from : s.first ≤ k
  pub to : k ≤ s.last
