use Rattle.std.proofs.Common.{take, List, All}
use Rattle.std.specs.Prelude.{flat_map}
use Rattle.oasis_records.specs.declared.cell.CellName.{CellName}
use Rattle.oasis_library.specs.Names.{IsNamed, number_in}
use Rattle.oasis_library.specs.inside.Holds.{HoldsNames}
use Rattle.oasis_library.specs.inside.Kept.{placed_from}
use Rattle.oasis_library.proofs.resolve.first_unnamed.Given as goal

-- the numbers of the cells so far have names
abbrev pub invariant-loop-j : goal.invariant-loop-j
invariant-loop-j l =
    (given : List CellName) → HoldsNames l.names given
    → All (IsNamed given) (flat_map (λ p. number_in (placed_from l.targets p).cell) (take l.j l.placements))
