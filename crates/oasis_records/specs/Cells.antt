-- CELL and CELLNAME records (SEMI P39 OASIS 1.0, "CELL record", "CELLNAME record"). Own rule: a name has at most 255
-- bytes.
use Rattle.std.specs.Prelude.{ℕ, Bool, true, false, List, Option, Some, None, Result}
use Rattle.oasis_values.specs.Known.{Seen}
use Rattle.oasis_values.specs.Numbers.{IsUnsigned}
use Rattle.oasis_values.specs.Spelling.{Spelling, Then}
use Rattle.oasis_values.specs.Texts.{IsString}
use Rattle.oasis_values.specs.declared.fault.ValueFault.{ValueFault}
use Rattle.oasis_values.specs.declared.text.Text.TheVariants.{N}
use Rattle.oasis_records.specs.declared.cell.CellRef.{CellRef}
use Rattle.oasis_records.specs.declared.cell.CellRef.TheVariants.{Number, Name}
use Rattle.oasis_records.specs.declared.record.Record.{Record}
use Rattle.oasis_records.specs.declared.record.Record.TheVariants.{Cell, CellName}

-- a cell by its number, or by its name
abbrev pub IsCellRef : Bool → Spelling CellRef
IsCellRef true = Seen Number IsUnsigned
IsCellRef false = Seen Name (IsString N 255)

-- the fields of a CELL
abbrev pub IsCell : Bool → Spelling Record
IsCell by_number = Seen Cell (IsCellRef by_number)

-- a CELLNAME with or without a number
abbrev pub cell_name : List ℕ → Option ℕ → Record
cell_name name number = CellName (record { name = name; number = number })

-- a CELLNAME without a number
abbrev pub unnumbered : List ℕ → Record
unnumbered name = cell_name name None

-- a CELLNAME with a number
abbrev pub numbered : List ℕ → ℕ → Record
numbered name number = cell_name name (Some number)

-- the fields of a CELLNAME without a number
abbrev pub IsCellName : Spelling Record
IsCellName = Seen unnumbered (IsString N 255)

-- the fields of a CELLNAME with a number
abbrev pub IsNumberedName : Spelling Record
IsNumberedName = Then (IsString N 255) (λ name. Seen (numbered name) IsUnsigned)
