-- The cells of a library, sound or not, and which of them could be its top (own rule).
use Rattle.std.specs.Prelude.{ℕ, Bool, not, List, length, map}
use Rattle.std.specs.List.{filter, list_any}
use Rattle.std.specs.Str.{bytes_eq}
use Rattle.lvl_cells.specs.Cells.{PlainCell}
use Rattle.lvl_count.specs.declared.listed.ListedCell.{ListedCell}

-- whether the cell refers to the name
abbrev pub refers_to : {F : Type 0} → List ℕ → PlainCell F → Bool
refers_to name c = list_any (λ r. bytes_eq name r.cell) c.references

-- whether some cell refers to the name
abbrev pub is_referred : {F : Type 0} → List (PlainCell F) → List ℕ → Bool
is_referred cells name = list_any (refers_to name) cells

-- whether no cell refers to the cell, so that it could be the top
abbrev pub is_top : {F : Type 0} → List (PlainCell F) → PlainCell F → Bool
is_top cells c = not (is_referred cells c.name)

-- the names of the cells to which no cell refers, in file order
abbrev pub tops : {F : Type 0} → List (PlainCell F) → List (List ℕ)
tops cells = map (λ c. c.name) (filter (is_top cells) cells)

-- what is listed of a cell
abbrev pub listed_as : {F : Type 0} → List (PlainCell F) → PlainCell F → ListedCell
listed_as cells c = record {
  name = c.name;
  shapes = length c.shapes;
  references = length c.references;
  is_top = is_top cells c;
}

-- what is listed of a library: its cells, in file order
abbrev pub listed : {F : Type 0} → List (PlainCell F) → List ListedCell
listed cells = map (listed_as cells) cells
