-- The targets of references: the indexes of the cells that they name.
use Rattle.std.specs.Prelude.{◌≡◌, ℕ, List, ◌∷◌, ◌++◌, map, All, Contains, slice_get, Some}
use Rattle.lvl_cells.specs.Cells.{PlainCell, PlainReference, Rings}
use Rattle.lvl_cells.specs.declared.rows.Run.{Run}
use Rattle.lvl_cells.specs.inside.Rows.{HasRow}
use Rattle.lvl_cells.specs.declared.fault.CellFault.{CellFault}
use Rattle.lvl_cells.specs.declared.fault.CellFault.TheVariants.{MissingCell}

-- the targets are the indexes of the names that the references have
abbrev pub AreTargets : List (List ℕ) → List PlainReference → List ℕ → Type 0
AreTargets names references targets = map (slice_get names) targets ≡ map (λ r. Some r.cell) references

-- the new runs are the old ones and a row of the indexes of the names that the references have
pub record HasTargets (names : List (List ℕ)) (references : List PlainReference) (old new : List Run) : Type 0 where
  pub targets : List ℕ
  pub row : HasRow old new targets
  pub are : AreTargets names references targets

-- of the names asked for, `name` is the first that isn't in the list of names
pub record IsFirstUnknown (names asked : List (List ℕ)) (name : List ℕ) : Type 0 where
  pub before : List (List ℕ)
  pub after : List (List ℕ)
  pub there : asked ≡ before ++ name ∷ after
  pub known : All (Contains names) before
  pub unknown : ¬ Contains names name

-- the fault reports the cell's first reference to a name that isn't in the list
abbrev pub IsMissingFault : List (List ℕ) → PlainCell Rings → CellFault → Type 0
IsMissingFault names c (MissingCell from name) =
    (from.items ≡ c.name) × IsFirstUnknown names (map (λ r. r.cell) c.references) name.items
IsMissingFault names c _ = ⊥
