-- The slab list of rings, and how large it can be.
use Rattle.std.specs.Prelude.{◌*◌, ◌<◌, ◌≤◌, Bool, not, List, [], ◌∷◌, ◌++◌, length, ℤ, count_by, All, Contains, IsTrue}
use Rattle.std.specs.Prelude.{◌↔◌}
use Rattle.std.specs.Ordering.{int_eq}
use Rattle.lvl_grid.specs.declared.point.Point.{Point}
use Rattle.lvl_grid.specs.declared.point.Square.{Square}
use Rattle.lvl_grid.specs.Winding.{edges}
use Rattle.lvl_region.specs.Region.{SomeCovers}
use Rattle.lvl_sweep.specs.declared.band.Band.{Band}
use Rattle.lvl_sweep.specs.Slab.{Slab, IsSlabList, slabs_cover}

-- a band as a step of the slab list
abbrev pub slab_of : Band → Slab
slab_of b = record { from = b.y0; to = b.y1; value = b.intervals.items }

-- the bands are the slab list of the squares that at least one of the rings covers
pub record AreBandsOf (rings : List (List Point)) (slabs : List Slab) : Type 0 where
  pub list : IsSlabList slabs
  pub covers : (s : Square) → IsTrue (slabs_cover slabs s) ↔ SomeCovers rings s

-- the lines include the ordinate of each vertex
abbrev pub HaveOrdinates : List ℤ → List (List Point) → Type 0
HaveOrdinates lines rings = All (λ ring. All (λ p. Contains lines p.y) ring) rings

-- for each nonempty list of lines that includes the ordinates of all vertices, there are fewer bands than lines
abbrev pub AreFewerThanLines : List (List Point) → List Slab → Type 0
AreFewerThanLines rings slabs =
    (lines : List ℤ) → HaveOrdinates lines rings → 0 < length lines → length slabs < length lines

-- the ends of the edge have different ordinates
abbrev pub is_vertical : Point × Point → Bool
is_vertical e = not (int_eq e.0.y e.1.y)

-- the edges of all rings
abbrev pub all_edges : List (List Point) → List (Point × Point)
all_edges [] = []
all_edges (ring ∷ rings) = edges ring ++ all_edges rings

-- each band has at most half as many intervals as the rings have vertical edges
abbrev pub HaveFewIntervals : List (List Point) → List Slab → Type 0
HaveFewIntervals rings slabs = All (λ b. 2 * length b.value ≤ count_by is_vertical (all_edges rings)) slabs
