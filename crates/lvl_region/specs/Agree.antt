-- Where two grids agree.
use Rattle.std.specs.Prelude.{ℤ, List, All, ◌↔◌}
use Rattle.lvl_grid.specs.declared.point.Square.{Square}
use Rattle.lvl_region.specs.declared.grid.GridRegion.{GridRegion}
use Rattle.lvl_region.specs.Grid.{IsMarked}

-- the grid covers the square
abbrev pub holds_grid : GridRegion → Square → Type 0
holds_grid g s = IsMarked g.xs.items g.ys.items g.rows.items s

-- both grids cover the square, or neither does
unfoldable pub AgreeAt : GridRegion → GridRegion → Square → Type 0
AgreeAt a b s = holds_grid a s ↔ holds_grid b s

-- the grids agree on row y at each of the lines
unfoldable pub AgreeOn : GridRegion → GridRegion → List ℤ → ℤ → Type 0
AgreeOn a b lines y = All (λ x. AgreeAt a b (record { x = x; y = y })) lines

-- the grids agree on each of the rows, at the lines of both
unfoldable pub AgreeOnRows : GridRegion → GridRegion → List ℤ → Type 0
AgreeOnRows a b rows = All (λ y. AgreeOn a b a.xs.items y × AgreeOn a b b.xs.items y) rows
