-- What the steps of the check return.
use Rattle.std.specs.Prelude.{◌≡◌, ℕ, List, map, Option, Some, None, Contains, slice_get}
use Rattle.lvl_cells.specs.Cells.{PlainCell, Rings, each_ring, names}
use Rattle.lvl_cells.specs.Chains.{own_rings}
use Rattle.lvl_cells.specs.Faults.{IsFirstMissing, IsCycle, HasTwoTops}
use Rattle.lvl_cells.specs.declared.counts.Weight.{Weight}
use Rattle.lvl_cells.specs.declared.counts.Weight.TheVariants.{One, OwnRings}
use Rattle.lvl_cells.specs.declared.fault.CellFault.{CellFault}
use Rattle.lvl_cells.specs.declared.fault.CellFault.TheVariants.{MissingCell, Cycle, TopMissing, ManyTops}

-- the targets of each cell are the indexes of the cells that its references name
abbrev pub AreAllTargets : List (PlainCell Rings) → List (List ℕ) → Type 0
AreAllTargets cells targets =
    map (λ ts. map (slice_get (names cells)) ts) targets ≡ map (λ c. map (λ r. Some r.cell) c.references) cells

-- the fault reports the first reference to a name that no cell has
abbrev pub IsFirstMissingFault : List (PlainCell Rings) → CellFault → Type 0
IsFirstMissingFault cells (MissingCell from name) = IsFirstMissing cells from.items name.items
IsFirstMissingFault cells _ = ⊥

-- the fault reports a cycle
abbrev pub IsCycleFault : List (PlainCell Rings) → CellFault → Type 0
IsCycleFault cells (Cycle round) = IsCycle cells (map (λ name. name.items) round.items)
IsCycleFault cells _ = ⊥

-- the fault is that no cell has the given name, or that none is given and there are two tops
abbrev pub IsTopFault : List (PlainCell Rings) → Option (List ℕ) → CellFault → Type 0
IsTopFault cells given TopMissing = (name : List ℕ) × (given ≡ Some name) × (¬ Contains (names cells) name)
IsTopFault cells given ManyTops = (given ≡ None) × HasTwoTops cells
IsTopFault cells given _ = ⊥

-- the weight of a cell: 1, or the number of its own rings
abbrev pub weigh : Weight → PlainCell Rings → ℕ
weigh One c = 1
weigh OwnRings c = own_rings each_ring c
