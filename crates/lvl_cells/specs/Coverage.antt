-- What a cell covers, defined for one square at a time.
use Rattle.std.specs.Prelude.{◌≡◌, ℕ, zero, suc, List, ◌⊎◌, Any, ◌-ℤ◌, IsSomeAnd}
use Rattle.lvl_grid.specs.declared.point.Point.{Point}
use Rattle.lvl_grid.specs.declared.point.Square.{Square}
use Rattle.lvl_grid.specs.Turn.{image_square}
use Rattle.lvl_names.specs.declared.layer.Layer.{Layer}
use Rattle.lvl_cells.specs.Cells.{PlainShape, PlainReference, PlainCell, map_at, cell_named}

-- the square that the shift moves to s
abbrev pub moved_back : Point → Square → Square
moved_back e s = record { x = s.x -ℤ e.x; y = s.y -ℤ e.y }

-- the shape is on the Layer, and its figure, moved by one of its shifts, covers the square s; `holds` says which
-- squares a figure covers
abbrev pub ShapeCovers : {F : Type 0} → (F → Square → Type 0) → Layer → Square → PlainShape F → Type 0
ShapeCovers holds layer s h = (h.layer ≡ layer) × Any (λ e. holds h.figure (moved_back e s)) h.shifts

-- under the reference at the shift e, s is the image of a square for which P holds
abbrev pub PullsBack : (Square → Type 0) → PlainReference → Square → Point → Type 0
PullsBack P r s e = (t : Square) × (image_square (map_at r e) t ≡ s) × P t

-- the cell covers the square on the Layer, by its own shapes or through a chain of at most n references
abbrev pub CoversWithin : {F : Type 0} → (F → Square → Type 0) → List (PlainCell F) → Layer → ℕ → PlainCell F → Square
    → Type 0
CoversWithin holds cells layer zero c s = Any (ShapeCovers holds layer s) c.shapes
CoversWithin holds cells layer (suc n) c s = Any (ShapeCovers holds layer s) c.shapes
    ⊎ Any
    (λ r. IsSomeAnd (cell_named cells r.cell)
    (λ d. Any (PullsBack (CoversWithin holds cells layer n d) r s) r.shifts)) c.references

-- the cell covers the square on the Layer, through a chain of any number of references
abbrev pub CellCovers : {F : Type 0} → (F → Square → Type 0) → List (PlainCell F) → Layer → PlainCell F → Square
    → Type 0
CellCovers holds cells layer c s = (n : ℕ) × CoversWithin holds cells layer n c s
