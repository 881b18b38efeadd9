-- What of a top may cover squares of a window.
use Rattle.std.specs.Prelude.{◌≡◌, ℕ, List, slice_get, Some, Any, Contains, IsSomeAnd}
use Rattle.lvl_grid.specs.declared.point.Square.{Square}
use Rattle.lvl_grid.specs.declared.point.Window.{Window}
use Rattle.lvl_grid.specs.Clip.{IsInWindow}
use Rattle.lvl_grid.specs.Winding.{SomeCovers}
use Rattle.lvl_names.specs.declared.layer.Layer.{Layer}
use Rattle.lvl_cells.specs.Cells.{PlainCell, Rings}
use Rattle.lvl_cells.specs.Checks.{Settled}
use Rattle.lvl_cells.specs.Coverage.{ShapeCovers}
use Rattle.lvl_flat.specs.declared.candidates.Candidates.{Candidates}
use Rattle.lvl_flat.specs.declared.candidates.Part.{Part}
use Rattle.lvl_flat.specs.declared.candidates.Part.TheVariants.{Shape, Reference}
use Rattle.lvl_flat.specs.inside.Visits.{PickCovers}

-- the cell's own shape with index i, or what its reference with index i places, covers the square on the Layer
abbrev pub PartCovers : List (PlainCell Rings) → PlainCell Rings → Part → ℕ → Layer → Square → Type 0
PartCovers cells c Shape i layer q = IsSomeAnd (slice_get c.shapes i) (ShapeCovers SomeCovers layer q)
PartCovers cells c Reference i layer q =
    IsSomeAnd (slice_get c.references i) (λ r. Any (λ e. PickCovers cells layer q (r, e)) r.shifts)

-- the list has the index of each part of the top that covers a square of the window
abbrev pub HasAll : Settled → Window → Part → List ℕ → Type 0
HasAll s w part list =
    (top : PlainCell Rings) → slice_get s.cells s.top ≡ Some top → (i : ℕ) (layer : Layer) (q : Square)
    → IsInWindow w q → PartCovers s.cells top part i layer q → Contains list i

-- own shapes and references of the top: all those that cover a square of the window, and maybe others
pub record AreCandidates (s : Settled) (w : Window) (candidates : Candidates) : Type 0 where
  pub shapes : HasAll s w Shape candidates.shapes
  pub references : HasAll s w Reference candidates.references
