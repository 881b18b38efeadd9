-- From the cells of a library of rings to those that the bytes of the file spell.
use Rattle.std.proofs.Common.{◌≡◌, ◌||◌, ℕ, Bool, List, [], ◌∷◌, length, map, not, refl, sym, ap, ◌∙◌}
use Rattle.std.specs.List.{list_any}
use Rattle.std.proofs.lemmas.List.{length-map}
use Rattle.lvl_path.specs.Figure.{figure_rings}
use Rattle.lvl_cells.specs.Cells.{PlainCell, PlainShape, Rings, drawn, kept}
use Rattle.lvl_count.specs.Listed.{is_referred, listed, listed_as, refers_to}
use Rattle.lvl_count.specs.declared.listed.ListedCell.{ListedCell}
use Rattle.lvl.specs.Drawing.{Drawing}
use Rattle.lvl.specs.Layouts.{File, IsLayoutOf}
use Rattle.lvl.specs.Listings.{IsListedFile}
use Rattle.lvl.specs.declared.layout.Head.{Head}
use Rattle.lvl.specs.declared.cells.CellList.{CellList}

referred_kept : {F : Type 0} (rings : F → Rings) (name : List ℕ) (cells : List (PlainCell F))
    → is_referred (kept rings cells) name ≡ is_referred cells name
referred_kept rings name [] = refl
referred_kept rings name (c ∷ cells) = ap (λ b. refers_to name c || b) (referred_kept rings name cells)

shapes_kept : {F : Type 0} (rings : F → Rings) (c : PlainCell F) → length (drawn rings c).shapes ≡ length c.shapes
shapes_kept {F = F} rings c =
    length-map c.shapes (λ (h : PlainShape F). record { layer = h.layer; figure = rings h.figure; shifts = h.shifts })

cell_kept_as : {F : Type 0} (rings : F → Rings) (all : List (PlainCell F)) (c : PlainCell F)
    → listed_as (kept rings all) (drawn rings c) ≡ listed_as all c
cell_kept_as rings all c =
    rw (shapes_kept rings c, referred_kept rings c.name all)

cells_kept_as : {F : Type 0} (rings : F → Rings) (all cells : List (PlainCell F))
    → map (listed_as (kept rings all)) (kept rings cells) ≡ map (listed_as all) cells
cells_kept_as rings all [] = refl
cells_kept_as rings all (c ∷ cells) = rw (cell_kept_as rings all c, cells_kept_as rings all cells)

-- what is listed of a library of figures is listed of the library of rings
listed_kept : {F : Type 0} (rings : F → Rings) (cells : List (PlainCell F))
    → listed (kept rings cells) ≡ listed cells
listed_kept rings cells = cells_kept_as rings cells cells

pub file_listed : (file : File) (found : List (PlainCell Rings)) (head : Head)
    → IsLayoutOf file.profile file.bytes found head → (list : CellList) → list.head ≡ head
    → list.cells.items ≡ listed found → IsListedFile file list
file_listed file found head read list head_is cells_are = record {
  cells = read.cells;
  spelled = rw head_is read.spelled;
  listed_are = cells_are ∙ ap listed read.kept_as ∙ listed_kept figure_rings read.cells;
}
