-- What is shown of a layout, and why it is refused.
use Rattle.std.specs.Prelude.{◌≡◌, ⊤, List, length}
use Rattle.lvl_path.specs.Figure.{figure_rings}
use Rattle.lvl_cells.specs.Cells.{PlainCell, Rings, each_ring}
use Rattle.lvl_cells.specs.Checks.{Settled}
use Rattle.lvl_count.specs.Counted.{AreCounted}
use Rattle.lvl_region.specs.declared.region.Side.TheVariants.{First}
use Rattle.lvl.specs.Drawing.{Drawing}
use Rattle.lvl.specs.declared.shown.Shown.{Shown}
use Rattle.lvl.specs.declared.verdict.Refusal.{Refusal}
use Rattle.lvl.specs.declared.verdict.Refusal.TheVariants.{File as FileRefusal, Cells as CellsRefusal}
use Rattle.lvl.specs.declared.verdict.Refusal.TheVariants.{Flat as FlatRefusal, OutOfMemory}
use Rattle.lvl.specs.Layouts.{File, Spells}
use Rattle.lvl.specs.Accepted.{IsAccepted}
use Rattle.lvl.specs.Kept.{Kept, IsCellFault, IsInRangeAs, IsRangeFault}

-- the name of the top, the number of cells, and the number of rings that the top places on each Layer
pub record IsShownOf {F : Type 0} (rings : F → Rings) (cells : List (PlainCell F)) (top : PlainCell F)
    (shown : Shown) : Type 0 where
  pub top_is : shown.top.items ≡ top.name
  pub cells_are : shown.cells ≡ length cells
  pub layers_are : AreCounted rings cells top shown.layers.items

-- the file is accepted, and this is shown of it
pub record IsShownFile (file : File) (shown : Shown) : Type 0 where
  pub cells : List Drawing
  pub top : Drawing
  pub accepted : IsAccepted file cells top
  pub head : Spells file.profile file.bytes cells shown.head
  pub shown_is : IsShownOf figure_rings cells top shown

-- the library of rings passes the check, what its top places is in range, and this is shown of it
pub record IsShownKept (k : Kept) (shown : Shown) : Type 0 where
  pub settled : Settled
  pub in_range : IsInRangeAs k settled
  pub shown_is : IsShownOf each_ring settled.cells in_range.top shown

-- the refusal is of the first side: a single file counts as the first
abbrev pub IsOfFirst : Refusal → Type 0
IsOfFirst (FileRefusal side f) = side ≡ First
IsOfFirst (CellsRefusal side f) = side ≡ First
IsOfFirst (FlatRefusal side f) = side ≡ First
IsOfFirst OutOfMemory = ⊤

-- the refusal of a library that was read is true
abbrev pub IsShowRefusal : Kept → Refusal → Type 0
IsShowRefusal k (FileRefusal side f) = ⊥
IsShowRefusal k (CellsRefusal side f) = (side ≡ First) × IsCellFault k f
IsShowRefusal k (FlatRefusal side f) = (side ≡ First) × IsRangeFault k f
IsShowRefusal k OutOfMemory = ⊤
