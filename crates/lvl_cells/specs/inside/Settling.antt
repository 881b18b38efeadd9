-- What a checked library stores, and its value.
use Rattle.lvl_cells.specs.Checks.{Settled, IsChecked}
use Rattle.lvl_cells.specs.Times.{AreTimes}
use Rattle.lvl_cells.specs.inside.Steps.{AreAllTargets}
use Rattle.lvl_cells.specs.declared.checked.Checked.TheInside.{Inside}

-- the value of a checked library
abbrev pub settled : Inside → Settled
settled a =
    record { cells = a.resolved.value.cells.items; top = a.top; order = a.resolved.value.order.items }

-- the library was checked, the targets are those of its references, and the times are how often the top places each
-- cell
pub record IsKeptSettled (a : Inside) : Type 0 where
  pub checked : IsChecked (settled a)
  pub targets : AreAllTargets a.resolved.value.cells.items a.resolved.value.targets
  pub times : AreTimes (settled a) a.times.items
