-- What cells of the two libraries of a pair cover, and what is found for them.
use Rattle.std.specs.Prelude.{ℕ, List, Option}
use Rattle.lvl_flat.specs.Flattened.{CoversAt}
use Rattle.lvl_view.specs.Moved.{IsMoved}
use Rattle.lvl_compare.specs.Tops.{Draws}
use Rattle.lvl_compare.specs.declared.pair.Pair.{Pair}
use Rattle.lvl_changed.specs.declared.found.Found.{Found}
use Rattle.lvl_changed.specs.inside.Finding.{AreFound, IsFound}

-- what a cell of the first library covers
abbrev pub first_covers : Pair → ℕ → Draws
first_covers pair cell = CoversAt pair.first.now.cells cell

-- what a cell of the second library covers, on the Layers to which the view maps its own
abbrev pub second_covers : Pair → ℕ → Draws
second_covers pair cell = IsMoved pair.view.now.pairs (CoversAt pair.second.now.cells cell)

-- what is found for a cell of the first library
abbrev pub IsFoundIn : Pair → ℕ → Found → Type 0
IsFoundIn pair = IsFound pair.view.now.pairs pair.first.now.cells pair.second.now.cells

-- what is found for each cell of the first library for which something is known
abbrev pub AreFoundIn : Pair → List (Option Found) → Type 0
AreFoundIn pair = AreFound pair.view.now.pairs pair.first.now.cells pair.second.now.cells
