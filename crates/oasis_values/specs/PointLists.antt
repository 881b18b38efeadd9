-- Point lists (SEMI P39 OASIS 1.0, "Point-list"). Own rules: the limits of the count, and that each vertex, and each
-- step of a list of double deltas, fits in 64 signed bits.
use Rattle.std.specs.Prelude.{ℕ, ◌%◌, ◌==◌, ◌&&◌, ◌||◌, not, nat_le, Bool, true, false, if◌then◌else◌, List, []}
use Rattle.std.specs.Prelude.{◌∷◌, ◌++◌, Option, Some, None, option_map, pos, ℤ}
use Rattle.lvl_grid.specs.declared.point.Point.{Point}
use Rattle.oasis_values.specs.Deltas.{to, IsTwoDelta, IsThreeDelta, IsGDelta}
use Rattle.oasis_values.specs.Known.{among, Known, Seen}
use Rattle.oasis_values.specs.Numbers.{IsUnsigned}
use Rattle.oasis_values.specs.Ranges.{sum}
use Rattle.oasis_values.specs.Reals.{IsSigned}
use Rattle.oasis_values.specs.Spelling.{Spelling, Then, Chain}
use Rattle.oasis_values.specs.declared.fault.ValueFault.TheVariants.{PointListType, PointCount, OutOfRange}
use Rattle.oasis_values.specs.declared.point_list.ListType.{ListType}
use Rattle.oasis_values.specs.declared.point_list.ListType.TheVariants.{HorizontalFirst, VerticalFirst, Manhattan}
use Rattle.oasis_values.specs.declared.point_list.ListType.TheVariants.{Octangular, AllAngle, DoubleDelta}
use Rattle.oasis_values.specs.declared.point_list.Use.{Use}
use Rattle.oasis_values.specs.declared.point_list.Use.TheVariants.{Polygon, Path}
use Rattle.oasis_values.specs.declared.point_list.Walk.{Walk}

-- the types of lists by their numbers, from 0
abbrev pub list_types : List ListType
list_types = HorizontalFirst ∷ VerticalFirst ∷ Manhattan ∷ Octangular ∷ AllAngle ∷ DoubleDelta ∷ []

-- whether a last vertex is implied, as in polygons of the first two types; the number of deltas is then even
abbrev pub comes_in_pairs : Use → ListType → Bool
comes_in_pairs Polygon HorizontalFirst = true
comes_in_pairs Polygon VerticalFirst = true
comes_in_pairs Polygon Manhattan = false
comes_in_pairs Polygon Octangular = false
comes_in_pairs Polygon AllAngle = false
comes_in_pairs Polygon DoubleDelta = false
comes_in_pairs Path kind = false

-- the least number of deltas (own rule)
abbrev pub least_points : Use → ℕ
least_points Polygon = 2
least_points Path = 1

-- the greatest number of deltas (own rule)
abbrev pub most_points : ℕ
most_points = 65536

-- whether a list of that type may have n deltas
abbrev pub may_have : Use → ListType → ℕ → Bool
may_have for kind n =
    nat_le (least_points for) n && nat_le n most_points && (not (comes_in_pairs for kind) || (n % 2 == 0))

-- the number n, if a list of that type may have n deltas
abbrev pub point_count : Use → ListType → ℕ → Option ℕ
point_count for kind n = if may_have for kind n then Some n else None

-- the point at which every list starts
abbrev pub origin : Point
origin = to (pos 0) (pos 0)

-- the step by a distance along x or along y
abbrev pub along : Bool → ℤ → Point
along true far = to far (pos 0)
along false far = to (pos 0) far

-- a step along x or along y: a 1-delta
abbrev pub IsAlong : Bool → Spelling Point
IsAlong along_x = Seen (along along_x) IsSigned

-- the sum of the step before and a g-delta
abbrev pub IsMore : Point → Spelling Point
IsMore before = Then IsGDelta (λ d. Known (sum before d) OutOfRange)

-- the step from a vertex to the next one
abbrev pub IsStep : ListType → Walk → Spelling Point
IsStep HorizontalFirst w = IsAlong w.along_x
IsStep VerticalFirst w = IsAlong w.along_x
IsStep Manhattan w = IsTwoDelta
IsStep Octangular w = IsThreeDelta
IsStep AllAngle w = IsGDelta
IsStep DoubleDelta w = IsMore w.by

-- whether the first step of a list goes along x
abbrev pub is_horizontal : ListType → Bool
is_horizontal HorizontalFirst = true
is_horizontal VerticalFirst = false
is_horizontal Manhattan = false
is_horizontal Octangular = false
is_horizontal AllAngle = false
is_horizontal DoubleDelta = false

-- the walk at the start, with no step before it; in the first two types, 1-deltas go along x and along y in turn
abbrev pub start_of : ListType → Walk
start_of kind = record { at = origin; by = origin; along_x = is_horizontal kind }

-- the walk after a step; None if the vertex doesn't fit in 64 signed bits
abbrev pub walked : Walk → Point → Option Walk
walked w by = option_map (λ p. record { at = p; by = by; along_x = not w.along_x }) (sum w.at by)

-- the next vertex: the one before it, moved by a step
abbrev pub IsNext : ListType → Walk → Spelling Walk
IsNext kind w = Then (IsStep kind w) (λ by. Known (walked w by) OutOfRange)

-- the implied vertex: from the last vertex the outline goes along the other axis than the last delta, up to the
-- coordinate of the origin, where the list starts
abbrev pub implied : Use → ListType → Point → Option Point
implied Polygon HorizontalFirst last = Some (to (pos 0) last.y)
implied Polygon VerticalFirst last = Some (to last.x (pos 0))
implied Polygon Manhattan last = None
implied Polygon Octangular last = None
implied Polygon AllAngle last = None
implied Polygon DoubleDelta last = None
implied Path kind last = None

-- the last point of a list; d if the list is empty
abbrev pub last_of : Point → List Point → Point
last_of d [] = d
last_of d (p ∷ ps) = last_of p ps

-- a list of the point, if there is one
abbrev pub if_any : Option Point → List Point
if_any None = []
if_any (Some p) = p ∷ []

-- the start, the vertices, and the implied one if there is one
abbrev pub closed : Use → ListType → List Point → List Point
closed for kind ps = (origin ∷ ps) ++ if_any (implied for kind (last_of origin ps))

-- n vertices after the start, and the implied one
abbrev pub AreVertices : Use → ListType → ℕ → Spelling (List Point)
AreVertices for kind n = Seen (closed for kind) (Chain (IsNext kind) (λ w. w.at) n (start_of kind))

-- a count, and that many vertices
abbrev pub IsListOf : Use → ListType → Spelling (List Point)
IsListOf for kind = Then IsUnsigned (λ n. Then (Known (point_count for kind n) PointCount) (AreVertices for kind))

-- a type, and a list of that type
abbrev pub IsPointList : Use → Spelling (List Point)
IsPointList for = Then IsUnsigned (λ n. Then (Known (among 0 list_types n) PointListType) (IsListOf for))
