-- The rules that a complete record may breach after others (SEMI P39 OASIS 1.0, "CELLNAME record", "CELL record", "END
-- record").
use Rattle.std.specs.Prelude.{Bool, true, false, if◌then◌else◌, List, [], ◌∷◌}
use Rattle.lvl_profile.specs.declared.profile.Profile.{Profile}
use Rattle.oasis_records.specs.declared.cell.CellName.{CellName}
use Rattle.oasis_records.specs.declared.record.Record.{Record}
use Rattle.oasis_records.specs.declared.record.Record.TheVariants.{CellName as OfCellName, Cell as OfCell}
use Rattle.oasis_figures.specs.Rules.{Breaches as FigureBreaches, BreachesNone}
use Rattle.oasis_stream.specs.Names.{RepeatsNumber, RepeatsName}
use Rattle.oasis_stream.specs.Order.{names_in}
use Rattle.oasis_stream.specs.declared.fault.NameRule.{NameRule}
use Rattle.oasis_stream.specs.declared.fault.NameRule.TheVariants.{NumberTwice, NameTwice}
use Rattle.oasis_stream.specs.declared.fault.OasisKind.{OasisKind}
use Rattle.oasis_stream.specs.declared.fault.OasisKind.TheVariants.{Name, Figure}

-- whether the record is a CELL
abbrev pub is_cell : Record → Bool
is_cell (OfCell c) = true
is_cell r = false

-- the records of rs after their last CELL, the latest first; if they have no CELL, all of them and then `earlier`
abbrev pub since : List Record → List Record → List Record
since earlier [] = earlier
since earlier (r ∷ rs) = since (if is_cell r then [] else r ∷ earlier) rs

-- the records after the last CELL, the latest first; all of them if there is no CELL
abbrev pub since_cell : List Record → List Record
since_cell rs = since [] rs

-- the name breaches the rule after these names; its number is tested first
abbrev pub NameBreaches : List CellName → CellName → NameRule → Type 0
NameBreaches names c NumberTwice = RepeatsNumber names c
NameBreaches names c NameTwice = (¬ RepeatsNumber names c) × RepeatsName names c
NameBreaches names c k = ⊥

-- the record is a CELLNAME that breaches the rule after these names
abbrev pub NamingBreaches : List CellName → Record → NameRule → Type 0
NamingBreaches names (OfCellName c) k = NameBreaches names c k
NamingBreaches names r k = ⊥

-- the record breaches the rule after the records rs: of names, or of what it draws after the records of its cell
abbrev pub RecordBreaches : Profile → List Record → Record → OasisKind → Type 0
RecordBreaches profile rs r (Name k) = NamingBreaches (names_in rs) r k
RecordBreaches profile rs r (Figure k) = FigureBreaches profile.ignore (since_cell rs) r k
RecordBreaches profile rs r k = ⊥

-- the record breaches no rule after the records rs: neither one of names, nor one of what it draws after the records
-- of its cell
abbrev pub KeepsRules : Profile → List Record → Record → Type 0
KeepsRules profile rs r = ((k : NameRule) → NamingBreaches (names_in rs) r k → ⊥)
    × BreachesNone profile.ignore (since_cell rs) r
