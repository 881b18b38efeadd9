-- The steps after the reading, on libraries of rings.
use Rattle.std.specs.Prelude.{◌≡◌, ⊤, ℕ, List, Option, Some, None, slice_get}
use Rattle.lvl_grid.specs.Winding.{SomeCovers}
use Rattle.lvl_cells.specs.Cells.{PlainCell, Rings}
use Rattle.lvl_grid.specs.declared.point.Square.{Square}
use Rattle.lvl_names.specs.declared.layer.Layer.{Layer}
use Rattle.lvl_cells.specs.Coverage.{CellCovers}
use Rattle.lvl_columns.specs.Windows.{IsShown}
use Rattle.lvl_profile.specs.declared.limits.Limits.{Limits}
use Rattle.lvl_cells.specs.Checks.{Settled, IsSettled, PlacesFew}
use Rattle.lvl_cells.specs.Faults.{IsFaultOf, IsSoundWith}
use Rattle.lvl_count.specs.Listed.{tops}
use Rattle.lvl_flat.specs.Flattened.{AllInRange, IsFlatFault}
use Rattle.lvl_flat.specs.declared.fault.FlatFault.{FlatFault}
use Rattle.lvl_region.specs.declared.region.Side.TheVariants.{First, Second}
use Rattle.lvl_view.specs.Views.{PlainView}
use Rattle.lvl_view.specs.Moved.{IsMoved}
use Rattle.lvl.specs.Views.{IsVerdictOf}
use Rattle.lvl.specs.declared.verdict.CellRefusal.{CellRefusal}
use Rattle.lvl.specs.declared.verdict.Verdict.{Verdict}
use Rattle.lvl.specs.declared.verdict.Refusal.{Refusal}
use Rattle.lvl.specs.declared.verdict.Refusal.TheVariants.{File as FileRefusal, Cells as CellsRefusal}
use Rattle.lvl.specs.declared.verdict.Refusal.TheVariants.{Flat as FlatRefusal, OutOfMemory}

-- a library of rings, the limits that hold for it, and the name of its top if one is given
pub record Kept : Type 0 where
  pub limits : Limits
  pub cells : List (PlainCell Rings)
  pub top : Option (List ℕ)

-- the library passes the check of cells, as s
pub record IsCheckedAs (k : Kept) (s : Settled) : Type 0 where
  pub cells : s.cells ≡ k.cells
  pub sound : IsSettled k.limits k.top s

-- the library passes the check of cells
abbrev pub Passes : Kept → Type 0
Passes k = (s : Settled) × IsCheckedAs k s

-- the fault is true, so the check of cells refuses the library; and if no top is named, the names are those of the cells
-- to which no cell refers
pub record IsCellFault (k : Kept) (r : CellRefusal) : Type 0 where
  pub reported : IsFaultOf k.limits k.cells k.top r.fault
  pub unsound : ¬ IsSoundWith k.cells k.top (PlacesFew k.limits k.cells)
  pub tops_are : k.top ≡ None → r.tops.items ≡ tops k.cells

-- the library passes the check of cells, but what its top places is out of range, as the fault says
pub record IsRangeFault (k : Kept) (fault : FlatFault) : Type 0 where
  pub settled : Settled
  pub checked : IsCheckedAs k settled
  pub reported : IsFlatFault settled fault

-- the library passes the check of cells, and what its top places is in range
pub record IsInRangeAs (k : Kept) (s : Settled) : Type 0 where
  pub checked : IsCheckedAs k s
  pub top : PlainCell Rings
  pub is_top : slice_get s.cells s.top ≡ Some top
  pub in_range : AllInRange s.cells top

-- a library passes the check of cells as some s, and what its top places is in range
abbrev pub IsFitted : Kept → Type 0
IsFitted k = (s : Settled) × IsInRangeAs k s

-- the cell covers the square on the Layer, through all references
abbrev pub Places : Settled → PlainCell Rings → Layer → Square → Type 0
Places s top layer q = CellCovers SomeCovers s.cells layer top q

-- both libraries pass the check, what they place is in range, and the verdict is true of what their tops cover under
-- the view
pub record IsKeptVerdict (view : PlainView) (a b : Kept) (v : Verdict) : Type 0 where
  pub ours : Settled
  pub theirs : Settled
  pub first : IsInRangeAs a ours
  pub second : IsInRangeAs b theirs
  pub verdict : IsVerdictOf (IsShown view.window) (Places ours first.top)
      (IsMoved view.pairs (Places theirs second.top)) v

-- the refusal is true, and the steps before it have passed
abbrev pub IsKeptRefusal : Kept → Kept → Refusal → Type 0
IsKeptRefusal a b (FileRefusal side fault) = ⊥
IsKeptRefusal a b (CellsRefusal First fault) = IsCellFault a fault
IsKeptRefusal a b (CellsRefusal Second fault) = Passes a × IsCellFault b fault
IsKeptRefusal a b (FlatRefusal First fault) = IsRangeFault a fault × Passes b
IsKeptRefusal a b (FlatRefusal Second fault) = IsFitted a × IsRangeFault b fault
IsKeptRefusal a b OutOfMemory = ⊤
