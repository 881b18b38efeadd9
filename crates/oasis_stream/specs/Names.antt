-- The numbers of cell names (SEMI P39 OASIS 1.0, "CELLNAME record").
use Rattle.std.specs.Prelude.{ℕ, ◌+◌, ◌==◌, if◌then◌else◌, List, [], ◌∷◌, length, map, Contains, Option, Some, None}
use Rattle.std.specs.Prelude.{IsSome}
use Rattle.oasis_records.specs.declared.cell.CellName.{CellName}
use Rattle.oasis_records.specs.declared.cell.CellRef.{CellRef}
use Rattle.oasis_records.specs.declared.cell.CellRef.TheVariants.{Number, Name}

-- the number of a name after n others: its own, or n if it has none
abbrev pub number_by : ℕ → Option ℕ → ℕ
number_by n None = n
number_by n (Some k) = k

-- the number of a CELLNAME after n others
abbrev pub number_after : ℕ → CellName → ℕ
number_after n c = number_by n c.number

-- the first name that has the number n, in a list of names after i others
abbrev pub name_from : ℕ → List CellName → ℕ → Option (List ℕ)
name_from i [] n = None
name_from i (c ∷ cs) n = if number_after i c == n then Some c.name else name_from (i + 1) cs n

-- the name that the number n stands for
abbrev pub name_of : List CellName → ℕ → Option (List ℕ)
name_of names n = name_from 0 names n

-- an earlier name has the same number
abbrev pub RepeatsNumber : List CellName → CellName → Type 0
RepeatsNumber names c = IsSome (name_of names (number_after (length names) c))

-- an earlier name is the same
abbrev pub RepeatsName : List CellName → CellName → Type 0
RepeatsName names c = Contains (map (λ o. o.name) names) c.name

-- the name of a cell that is given by a number or by its name
abbrev pub meant : List CellName → CellRef → Option (List ℕ)
meant names (Number n) = name_of names n
meant names (Name s) = Some s
