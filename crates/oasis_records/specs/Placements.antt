-- PLACEMENT records (SEMI P39 OASIS 1.0, "PLACEMENT record"), with the info byte CNXYRAAF or CNXYRMAF.
use Rattle.std.specs.Prelude.{ℕ, ◌/◌, ◌%◌, List, [], ◌∷◌, Option, Result}
use Rattle.lvl_grid.specs.declared.map.Turn.{Turn}
use Rattle.lvl_grid.specs.declared.map.Turn.TheVariants.{R0, R90, R180, R270}
use Rattle.oasis_values.specs.Known.{one_of, Seen}
use Rattle.oasis_values.specs.Numbers.{IsByte}
use Rattle.oasis_values.specs.Reals.{IsReal}
use Rattle.oasis_values.specs.Spelling.{Spelling, Then}
use Rattle.oasis_values.specs.declared.fault.ValueFault.{ValueFault}
use Rattle.oasis_records.specs.Cells.{IsCellRef}
use Rattle.oasis_records.specs.Fields.{has, If, IsPosition}
use Rattle.oasis_records.specs.declared.cell.CellRef.{CellRef}
use Rattle.oasis_records.specs.declared.figure.Position.{Position}
use Rattle.oasis_records.specs.declared.placement.Transform.{Transform}
use Rattle.oasis_records.specs.declared.placement.Transform.TheVariants.{Turned, Scaled}
use Rattle.oasis_records.specs.declared.record.Record.{Record}
use Rattle.oasis_records.specs.declared.record.Record.TheVariants.{Placement}

-- the turns by their numbers, from 0
abbrev pub turn_of : ℕ → Turn
turn_of = one_of 0 (R0 ∷ R90 ∷ R180 ∷ []) R270

-- the record, of which the lowest bit of the info byte says whether it reflects
abbrev pub placement : ℕ → Option CellRef → Transform → Position → Record
placement i cell t p = Placement (record { cell = cell; flip = has i 0x01; transform = t; position = p })

-- the cell, if C is set: a number if N is set, else a name. Own rule: N without C is ignored
abbrev pub IsCellIf : ℕ → Spelling (Option CellRef)
IsCellIf i = If (has i 0x80) (IsCellRef (has i 0x40))

-- the fields after the info byte CNXYRAAF; X, Y and R are one bit higher than in a figure
abbrev pub IsTurnedOf : ℕ → Spelling Record
IsTurnedOf i = Then (IsCellIf i) (λ cell. Seen (placement i cell (Turned (turn_of (i / 2 % 4)))) (IsPosition (i / 2)))

-- the fields after the info byte CNXYRMAF
abbrev pub IsScaledOf : ℕ → Spelling Record
IsScaledOf i =
    Then (IsCellIf i) (λ cell.
    Then (If (has i 0x04) IsReal) (λ m.
    Then (If (has i 0x02) IsReal) (λ a.
    Seen (placement i cell (Scaled m a)) (IsPosition (i / 2)))))

-- the fields of a PLACEMENT with a turn
abbrev pub IsTurned : Spelling Record
IsTurned = Then IsByte IsTurnedOf

-- the fields of a PLACEMENT with a magnification and an angle
abbrev pub IsScaled : Spelling Record
IsScaled = Then IsByte IsScaledOf
