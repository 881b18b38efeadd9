-- Rings as they are kept: by their points or, if they are rectangles, by a diagonal.
use Rattle.std.specs.Prelude.{◌≡◌, ℕ, ◌+◌, ◌-◌, ◌*◌, ◌<◌, ◌≤◌, Bool, true, false, List, [], ◌∷◌, map, take, drop}
use Rattle.std.specs.Prelude.{length, get_or, pos}
use Rattle.std.specs.Prelude.{All, IsTrue, IfSome}
use Rattle.lvl_grid.specs.declared.point.Point.{Point}
use Rattle.lvl_grid.specs.Turn.{shifted}
use Rattle.lvl_grid.specs.Winding.{IsRing}
use Rattle.lvl_names.specs.Shifts.{IsBetween}
use Rattle.lvl_cells.specs.declared.form.Rectangle.{Rectangle}
use Rattle.lvl_cells.specs.declared.outline.Kept.{Kept}
use Rattle.lvl_cells.specs.declared.outline.Outline.{Outline}
use Rattle.lvl_cells.specs.declared.outline.Kept.TheVariants.{Points, Corners}
use Rattle.lvl_cells.specs.declared.outlines.OutlineSpan.{OutlineSpan}
use Rattle.lvl_cells.specs.Stretches.{stretch_at}
use Rattle.lvl_cells.specs.inside.Spans.{IsAgain, origin}

-- the point on the axis x with the abscissa of another
abbrev pub on_x : Point → Point
on_x p = record { x = p.x; y = pos 0 }

-- the point on the axis y with the ordinate of another
abbrev pub on_y : Point → Point
on_y p = record { x = pos 0; y = p.y }

-- the rectangle from the origin to the opposite corner, whose first edge is along y or along x
abbrev pub rectangle_to : Point → Bool → List Point
rectangle_to d true = origin ∷ on_y d ∷ d ∷ on_x d ∷ []
rectangle_to d false = origin ∷ on_x d ∷ d ∷ on_y d ∷ []

-- the corner of a rectangle that is beside the first one, on its edge along y or on that along x
abbrev pub beside : Point → Point → Bool → Point
beside from to true = record { x = from.x; y = to.y }
beside from to false = record { x = to.x; y = from.y }

-- the ring that is kept by these points: by one, the rectangle from the origin to it
abbrev pub outline : List Point → Bool → List Point
outline [] along_y = []
outline (d ∷ []) along_y = rectangle_to d along_y
outline (p ∷ q ∷ ps) along_y = p ∷ q ∷ ps

-- the ring that an outline means
abbrev pub ring_of : Outline → List Point
ring_of o = outline o.points.now o.along_y

-- the points at an index and after it are corners of a window that has all the points of a stretch of a ring
abbrev pub IsAround : List Point → ℕ → List Point → ℕ → Type 0
IsAround corners i ring k = All (IsBetween (get_or corners i origin) (get_or corners (i + 1) origin)) (stretch_at ring k)

-- from an index on there are such corners for each of the first stretches of a ring
abbrev pub AreStretches : List Point → ℕ → ℕ → List Point → Type 0
AreStretches corners from count ring = (k : ℕ) → k < count → IsAround corners (from + 2 * k) ring k

-- the reach of an outline, if it has one, is around all points of the ring, and its corners are those of stretches
pub record IsInReach (o : Outline) : Type 0 where
  pub reach : IfSome o.reach (λ reach. All (IsBetween reach.0 reach.1) (ring_of o))
  pub stretches : (k : ℕ) → 2 * k + 1 < length o.corners.now → IsAround o.corners.now (2 * k) (ring_of o) k

-- the points with an index from `begin` up to `end`, which is excluded
abbrev pub stretch_in : List Point → ℕ → ℕ → List Point
stretch_in points begin end = take (end - begin) (drop begin points)

-- the points of a ring that is kept, or the corners of a rectangle
abbrev pub kept_points : Kept → List Point
kept_points (Points p) = p.now
kept_points (Corners c) = c

-- the points of a rectangle
abbrev pub rectangle_at : Rectangle → List Point
rectangle_at r = map (shifted r.from) (rectangle_to r.diagonal r.along_y)

-- the ring is the rectangle
abbrev pub IsRectangle : Rectangle → List Point → Type 0
IsRectangle r ring = IsAgain (rectangle_to r.diagonal r.along_y) r.from ring

-- the ring that a span means, given the points that are kept
abbrev pub outline_in : List Point → OutlineSpan → List Point
outline_in points s = outline (stretch_in points s.begin s.end) s.along_y

-- the two points before an index are corners of a window that has all the points of a ring
pub record HasCornersBefore (points : List Point) (n : ℕ) (ring : List Point) : Type 0 where
  pub two : 2 ≤ n
  pub around : All (IsBetween (get_or points (n - 2) origin) (get_or points (n - 1) origin)) ring

-- the last two points are such corners
abbrev pub HasCorners : List Point → List Point → Type 0
HasCorners points ring = HasCornersBefore points (length points) ring

-- the index of the first corner of a stretch of the ring
abbrev pub stretches_from : OutlineSpan → ℕ
stretches_from s = s.begin - 2 * s.stretches

-- the corners of the first stretches of a ring are appended
pub record AddsStretches (points points' : List Point) (count : ℕ) (ring : List Point) : Type 0 where
  pub size : length points' ≡ length points + 2 * count
  pub are : AreStretches points' (length points) count ring

-- the indexes of the span are those of kept points, what they mean is a ring, the points before them are the corners of
-- its stretches, and those before these are its own corners if the span says so
pub record IsOutline (points : List Point) (s : OutlineSpan) : Type 0 where
  pub order : s.begin ≤ s.end
  pub inside : s.end ≤ length points
  pub ring : IsRing (outline_in points s)
  pub room : 2 * s.stretches ≤ s.begin
  pub stretches : AreStretches points (stretches_from s) s.stretches (outline_in points s)
  pub reach : IsTrue s.has_reach → HasCornersBefore points (stretches_from s) (outline_in points s)

-- a span of kept points means the ring
pub record IsKept (points : List Point) (s : OutlineSpan) (ring : List Point) : Type 0 where
  pub valid : IsOutline points s
  pub is : outline_in points s ≡ ring
