-- What parts of a top cover.
use Rattle.std.specs.Prelude.{◌≡◌, ℕ, slice_get, Some}
use Rattle.lvl_grid.specs.declared.point.Square.{Square}
use Rattle.lvl_grid.specs.declared.point.Window.{Window}
use Rattle.lvl_grid.specs.Clip.{IsInWindow}
use Rattle.lvl_names.specs.declared.layer.Layer.{Layer}
use Rattle.lvl_cells.specs.Cells.{PlainCell, Rings}
use Rattle.lvl_cells.specs.Checks.{Settled}
use Rattle.lvl_flat.specs.declared.bounds.Bounds.{Bounds}
use Rattle.lvl_flat.specs.declared.candidates.Part.{Part}
use Rattle.lvl_flat.specs.Candidates.{PartCovers}
use Rattle.lvl_flat.specs.inside.Bounds.{HasSquare}

-- the box has each square that the part of the top with this index covers
abbrev pub HasParts : Settled → Part → ℕ → Bounds → Type 0
HasParts s part i b =
    (top : PlainCell Rings) → slice_get s.cells s.top ≡ Some top → (layer : Layer) (q : Square)
    → PartCovers s.cells top part i layer q → HasSquare b q

-- the part of the top with this index covers no square of the window
abbrev pub MissesPart : Settled → Window → Part → ℕ → Type 0
MissesPart s w part i =
    (top : PlainCell Rings) → slice_get s.cells s.top ≡ Some top → (layer : Layer) (q : Square) → IsInWindow w q
    → ¬ PartCovers s.cells top part i layer q
