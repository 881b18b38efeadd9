-- Cells with the numbers of cells replaced by names (SEMI P39 OASIS 1.0, "CELLNAME record", "CELL record", "PLACEMENT
-- record").
use Rattle.std.specs.Prelude.{◌≡◌, ℕ, List, [], ◌∷◌, ◌++◌, flat_map, All, Some, None, IsSome}
use Rattle.std.specs.List.{AllZip}
use Rattle.lvl_cells.specs.Cells.{PlainCell, PlainReference}
use Rattle.oasis_records.specs.declared.cell.CellName.{CellName}
use Rattle.oasis_records.specs.declared.cell.CellRef.{CellRef}
use Rattle.oasis_records.specs.declared.cell.CellRef.TheVariants.{Number, Name}
use Rattle.oasis_figures.specs.Figures.{Placed}
use Rattle.oasis_stream.specs.Names.{name_of, meant}
use Rattle.oasis_library.specs.Cells.{PlainDrawing}

-- the reference is the placement, with the number of its cell replaced by a name
pub record IsReference (names : List CellName) (p : Placed) (r : PlainReference) : Type 0 where
  pub cell : meant names p.cell ≡ Some r.cell
  pub flip : r.flip ≡ p.flip
  pub turn : r.turn ≡ p.turn
  pub at : r.at ≡ p.at
  pub shifts : r.shifts ≡ p.shifts

-- the cell is the drawing, with numbers replaced by names
pub record IsCell {F : Type 0} (names : List CellName) (d : PlainDrawing F) (c : PlainCell F) : Type 0 where
  pub name : meant names d.name ≡ Some c.name
  pub shapes : c.shapes ≡ d.shapes
  pub references : AllZip (IsReference names) d.placements c.references

-- the cells are the drawings, in the same order, with numbers replaced by names
abbrev pub AreCells : {F : Type 0} → List CellName → List (PlainDrawing F) → List (PlainCell F) → Type 0
AreCells names ds cs = AllZip (IsCell names) ds cs

-- the number by which a cell is given, if it is
abbrev pub number_in : CellRef → List ℕ
number_in (Number n) = n ∷ []
number_in (Name s) = []

-- the numbers used in a cell: its own number comes before those that it places
abbrev pub numbers_in : {F : Type 0} → PlainDrawing F → List ℕ
numbers_in d = number_in d.name ++ flat_map (λ p. number_in p.cell) d.placements

-- the numbers used in a file, in its order
abbrev pub numbers_used : {F : Type 0} → List (PlainDrawing F) → List ℕ
numbers_used ds = flat_map numbers_in ds

-- some name has the number n
abbrev pub IsNamed : List CellName → ℕ → Type 0
IsNamed names n = IsSome (name_of names n)

-- n is the first of the numbers used that no name has
pub record IsUnnamed (names : List CellName) (used : List ℕ) (n : ℕ) : Type 0 where
  pub before : List ℕ
  pub after : List ℕ
  pub there : used ≡ before ++ n ∷ after
  pub named : All (IsNamed names) before
  pub unnamed : name_of names n ≡ None
