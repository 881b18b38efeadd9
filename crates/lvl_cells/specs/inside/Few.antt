-- Shapes of one ring as they are stored if they are few: for each, which points it has, how they are moved, and the
-- number of its list of shifts.
use Rattle.std.specs.Prelude.{◌≡◌, ◌+◌, ◌<◌, ◌≤◌, List, [], ◌∷◌, map, length}
use Rattle.lvl_grid.specs.declared.point.Point.{Point}
use Rattle.lvl_grid.specs.Turn.{shifted}
use Rattle.lvl_cells.specs.declared.few_shapes.FewSpan.{FewSpan}
use Rattle.lvl_cells.specs.declared.few_shapes.KeptRing.{KeptRing}
use Rattle.lvl_cells.specs.Cells.{PlainShape, Rings}
use Rattle.lvl_cells.specs.inside.Outlines.{outline, stretch_in}
use Rattle.lvl_cells.specs.inside.Spans.{numbered, IsMovable}

-- the shape that a span means, given the points and the lists of shifts that are kept
abbrev pub few_shape_in : List Point → List (List Point) → FewSpan → PlainShape Rings
few_shape_in points kept s = record {
  layer = s.layer;
  figure = map (shifted s.by) (outline (stretch_in points s.begin s.end) s.along_y) ∷ [];
  shifts = numbered kept s.shifts;
}

-- the indexes and the number of the span are those of kept items, and its points are a ring that fits in 64 signed bits
pub record IsFewSpan (points : List Point) (kept : List (List Point)) (s : FewSpan) : Type 0 where
  pub order : s.begin ≤ s.end
  pub inside : s.end ≤ length points
  pub movable : IsMovable s.by (outline (stretch_in points s.begin s.end) s.along_y)
  pub shifts : s.shifts < length kept + 1

-- the kept ring k means this ring: some of the points, moved
pub record IsKeptRing (points : List Point) (k : KeptRing) (ring : List Point) : Type 0 where
  pub order : k.begin ≤ k.end
  pub inside : k.end ≤ length points
  pub movable : IsMovable k.by (outline (stretch_in points k.begin k.end) k.along_y)
  pub is : map (shifted k.by) (outline (stretch_in points k.begin k.end) k.along_y) ≡ ring
