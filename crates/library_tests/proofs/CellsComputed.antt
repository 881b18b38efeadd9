-- The definitions of lattices, names, counts and coverage, computed on small examples.
use Rattle.std.proofs.Common.{◌≡◌, ℕ, List, [], ◌∷◌, Some, None, inr, false, pos, refl, arith}
use Rattle.lvl_grid.specs.declared.map.Turn.TheVariants.{R90}
use Rattle.lvl_grid.specs.declared.point.Point.{Point}
use Rattle.lvl_grid.specs.Winding.{rectangle_between, SomeCovers}
use Rattle.lvl_names.specs.declared.layer.Layer.{Layer}
use Rattle.lvl_names.specs.Shifts.{lattice, one_place}
use Rattle.lvl_cells.specs.Cells.{PlainCell, PlainReference, PlainShape, Rings, each_ring, cell_named, map_at}
use Rattle.lvl_cells.specs.Chains.{chains, placed_rings}
use Rattle.lvl_cells.specs.Coverage.{CoversWithin, CellCovers}

abbrev point : ℕ → ℕ → Point
point x y = record { x = pos x; y = pos y }

-- three columns of steps by (10, 0) and two rows of steps by (1, 20), row after row
array : lattice (point 10 0) 3 (point 1 20) 2
    ≡ point 0 0 ∷ point 10 0 ∷ point 20 0 ∷ point 1 20 ∷ point 11 20 ∷ point 21 20 ∷ []
array = refl

-- a leaf A that draws two rings at two places, B that places A in that array, and TOP that places B twice and A once
abbrev metal : Layer
metal = record { layer = 1; datatype = 0 }

abbrev two_rings : PlainShape Rings
two_rings = record {
  layer = metal;
  figure = rectangle_between (point 0 0) (point 4 2) ∷ rectangle_between (point 5 0) (point 6 1) ∷ [];
  shifts = point 0 0 ∷ point 100 0 ∷ [];
}

abbrev leaf : PlainCell Rings
leaf = record { name = 0x41 ∷ []; shapes = two_rings ∷ []; references = [] }

abbrev by : List ℕ → List Point → PlainReference
by name shifts = record { cell = name; flip = false; turn = R90; at = point 7 0; shifts = shifts }

abbrev row : PlainCell Rings
row = record {
  name = 0x42 ∷ [];
  shapes = [];
  references = by (0x41 ∷ []) (lattice (point 10 0) 3 (point 1 20) 2) ∷ [];
}

abbrev top : PlainCell Rings
top = record {
  name = 0x54 ∷ [];
  shapes = [];
  references = by (0x42 ∷ []) (point 0 0 ∷ point 0 50 ∷ []) ∷ by (0x41 ∷ []) one_place ∷ [];
}

abbrev cells : List (PlainCell Rings)
cells = row ∷ leaf ∷ top ∷ []

named : cell_named cells (0x41 ∷ []) ≡ Some leaf
named = refl

unnamed : cell_named cells (0x43 ∷ []) ≡ None
unnamed = refl

-- the second place of a reference is its own point and the shift
second_place : map_at (by (0x42 ∷ []) (point 0 0 ∷ point 0 50 ∷ [])) (point 0 50)
    ≡ record { flip = false; turn = R90; at = point 7 50 }
second_place = refl

-- TOP itself, two rows, six leaves in each, and one leaf besides
chains_counted : chains cells top ≡ 16
chains_counted = refl

-- 13 leaves, two rings in each, at two places
rings_counted : placed_rings each_ring cells top ≡ 52
rings_counted = refl

-- A covers (3, 1). TOP places A turned by 90 degrees at (7, 0), and covers the image (5, 3)
by_the_leaf : CoversWithin SomeCovers cells metal 0 leaf (record { x = pos 3; y = pos 1 })
by_the_leaf = (
  0,
  two_rings,
  omega arith,
  refl,
  (
    refl,
    (
      0,
      point 0 0,
      omega arith,
      refl,
      (0, rectangle_between (point 0 0) (point 4 2), omega arith, refl, (λ e. cc)),
    ),
  ),
)

covered : CellCovers SomeCovers cells metal top (record { x = pos 5; y = pos 3 })
covered = (
  1,
  inr (
    1,
    by (0x41 ∷ []) one_place,
    omega arith,
    refl,
    (0, point 0 0, omega arith, refl, (record { x = pos 3; y = pos 1 }, refl, by_the_leaf)),
  ),
)
