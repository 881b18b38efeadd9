-- What a linked library borrows, and its value.
use Rattle.std.specs.Prelude.{◌<◌, length}
use Rattle.lvl_cells.specs.Checks.{Settled}
use Rattle.lvl_cells.specs.Soundness.{AreLinked, IsOrder}
use Rattle.lvl_cells.specs.inside.Steps.{AreAllTargets}
use Rattle.lvl_cells.specs.declared.linked.Linked.TheInside.{Inside}

-- the value of a linked library
abbrev pub linked_value : Inside → Settled
linked_value a = record { cells = a.cells.now; top = a.top; order = a.order.now }

-- each reference names a cell, the targets are those of the references, the order is one of the cells, and the top is
-- one of them
pub record IsKeptLinked (a : Inside) : Type 0 where
  pub linked : AreLinked a.cells.now
  pub targets : AreAllTargets a.cells.now a.targets.now
  pub sorted : IsOrder a.cells.now a.order.now
  pub within : a.top < length a.cells.now
