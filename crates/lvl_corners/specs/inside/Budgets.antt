-- The budget of columns. These definitions serve only the proofs.
use Rattle.std.specs.Prelude.{◌≡◌, ◌≤◌, ◌+◌, ℤ, Option, None, Some}
use Rattle.lvl_corners.specs.declared.columns.ColumnBudget.{ColumnBudget}

-- at most as many columns were made as may be, and the limit is unchanged
abbrev pub KeepsBudget : ColumnBudget → ColumnBudget → Type 0
KeepsBudget old new = (new.most ≡ old.most) × (new.made ≤ new.most)

-- the budget after a cut, which takes two columns of it, or after no cut
abbrev pub paid : Option ℤ → ColumnBudget → ColumnBudget
paid None budget = budget
paid (Some at) budget = record { made = budget.made + 2; most = budget.most }
