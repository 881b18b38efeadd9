-- The definitions of numbers, deltas, point lists, repetitions and paths, computed on small examples.
use Rattle.std.proofs.Common.{◌≡◌, ◌==◌, ◌%◌, ℕ, List, [], ◌∷◌, Some, None, Ok, true, false, pos, negsuc, refl}
use Rattle.lvl_grid.specs.declared.point.Point.{Point}
use Rattle.lvl_names.specs.Shifts.{lattice}
use Rattle.lvl_path.specs.Figure.{path, figure_rings}
use Rattle.lvl_path.specs.Repeats.{without_repeats}
use Rattle.lvl_path.specs.Runs.{path_rings, runs}
use Rattle.lvl_profile.specs.Profiles.{strict}
use Rattle.oasis_values.specs.Deltas.{two_delta, three_delta, IsGDelta, IsRestOfGDelta}
use Rattle.oasis_values.specs.Deltas.{free}
use Rattle.oasis_values.specs.Known.{among, Allowed, Known, Seen}
use Rattle.oasis_values.specs.Numbers.{IsUnsigned}
use Rattle.oasis_values.specs.PointLists.{list_types, point_count, closed, start_of, along, walked, origin}
use Rattle.oasis_values.specs.PointLists.{IsStep, IsNext, AreVertices, IsListOf, IsPointList}
use Rattle.oasis_values.specs.Reals.{with_sign, IsSigned}
use Rattle.oasis_values.specs.Repetitions.{kinds, matrix_size, lattice_in_range, moved, space, IsSpaceAlong, IsShift}
use Rattle.oasis_values.specs.Repetitions.{IsColumns, IsMatrixOf, IsKind, IsRepetition}
use Rattle.oasis_values.specs.Spelling.{Chain, Then}
use Rattle.oasis_values.specs.declared.fault.ValueFault.TheVariants.{PointListType, PointCount, OutOfRange}
use Rattle.oasis_values.specs.declared.fault.ValueFault.TheVariants.{RepetitionType, RepetitionSize}
use Rattle.oasis_values.specs.declared.point_list.ListType.TheVariants.{HorizontalFirst}
use Rattle.oasis_values.specs.declared.point_list.Use.TheVariants.{Polygon}
use Rattle.oasis_values.specs.declared.point_list.Walk.{Walk}
use Rattle.oasis_values.specs.declared.repetition.Kind.TheVariants.{Matrix}
use Rattle.oasis_values.specs.declared.repetition.Repetition.TheVariants.{New}
use Rattle.oasis_values.specs.declared.shift.Spacing.TheVariants.{AlongX, AlongY}
use Rattle.library_tests.proofs.OasisSpelled.{after, alone, seen, chained, small, wide}

abbrev point : ℕ → ℕ → Point
point x y = record { x = pos x; y = pos y }

-- a path to the east and then to the north, of half the width 2, that reaches by 1 beyond its beginning and not beyond
-- its end; a point where it goes straight on begins no run
abbrev bent : List Point
bent = point 0 0 ∷ point 4 0 ∷ point 10 0 ∷ point 10 6 ∷ []

runs_of_bent : runs bent ≡ (0, 2) ∷ (2, 3) ∷ []
runs_of_bent = refl

rings_of_bent : path_rings bent (record { half = 2; start = 1; end = 0 })
    ≡ (record { x = negsuc 0; y = negsuc 1 } ∷ record { x = pos 12; y = negsuc 1 } ∷ point 12 2
    ∷ record { x = negsuc 0; y = pos 2 } ∷ [])
    ∷ (record { x = pos 8; y = negsuc 1 } ∷ record { x = pos 12; y = negsuc 1 } ∷ point 12 6 ∷ point 8 6 ∷ []) ∷ []
rings_of_bent = refl

-- points that equal the one before are left out, however many they are; one that comes again later isn't
left_out : without_repeats (point 0 0 ∷ point 0 0 ∷ point 4 0 ∷ point 4 0 ∷ point 4 0 ∷ point 0 0 ∷ [])
    ≡ point 0 0 ∷ point 4 0 ∷ point 0 0 ∷ []
left_out = refl

-- if all points are equal, one is left
one_left : without_repeats (point 5 7 ∷ point 5 7 ∷ point 5 7 ∷ []) ≡ point 5 7 ∷ []
one_left = refl

-- a path draws the same with such points
bent_with_repeats : figure_rings (path (point 0 0 ∷ point 0 0 ∷ point 4 0 ∷ point 10 0 ∷ point 10 0 ∷ point 10 6 ∷ [])
    (record { half = 2; start = 1; end = 0 }))
    ≡ path_rings bent (record { half = 2; start = 1; end = 0 })
bent_with_repeats = refl

-- 300 is 44 and 2 times 128
integer : IsUnsigned strict (0xAC ∷ 2 ∷ []) (Ok 300)
integer = wide strict 0xAC 2 300 refl refl refl refl

-- the lowest bit of a signed integer is its sign
minus_five : IsSigned strict (11 ∷ []) (Ok (negsuc 4))
minus_five = seen strict with_sign IsUnsigned (11 ∷ []) 11 (small strict 11 refl refl refl)

-- 5 to the west, and 5 to the northwest
two_delta_of_22 : two_delta 22 ≡ record { x = negsuc 4; y = pos 0 }
two_delta_of_22 = refl

three_delta_of_45 : three_delta 45 ≡ record { x = negsuc 4; y = pos 5 }
three_delta_of_45 = refl

-- a g-delta in two integers: 3 to the west, 4 to the north
two_integers : IsGDelta strict (15 ∷ 8 ∷ []) (Ok (record { x = negsuc 2; y = pos 4 }))
two_integers =
    after strict IsUnsigned (λ n. IsRestOfGDelta (n % 2 == 0) n) (15 ∷ []) (8 ∷ []) 15 (Ok (free 7 8))
    (small strict 15 refl refl refl) (seen strict (free 7) IsUnsigned (8 ∷ []) 8 (small strict 8 refl refl refl))

-- a polygon of two 1-deltas, the first along x: 10 to the east, 5 to the north; the fourth vertex is implied
abbrev rectangle : List Point
rectangle = point 0 0 ∷ point 10 0 ∷ point 10 5 ∷ point 0 5 ∷ []

abbrev halfway : Walk
halfway = record { at = point 10 0; by = point 10 0; along_x = false }

abbrev at_corner : Walk
at_corner = record { at = point 10 5; by = point 0 5; along_x = true }

to_the_east : IsNext HorizontalFirst (start_of HorizontalFirst) strict (20 ∷ []) (Ok halfway)
to_the_east =
    alone strict (IsStep HorizontalFirst (start_of HorizontalFirst))
    (λ by. Known (walked (start_of HorizontalFirst) by) OutOfRange) (20 ∷ []) (point 10 0) (Ok halfway)
    (seen strict (along true) IsSigned (20 ∷ []) (pos 10)
    (seen strict with_sign IsUnsigned (20 ∷ []) 20 (small strict 20 refl refl refl))) (refl, refl)

to_the_north : IsNext HorizontalFirst halfway strict (10 ∷ []) (Ok at_corner)
to_the_north =
    alone strict (IsStep HorizontalFirst halfway) (λ by. Known (walked halfway by) OutOfRange) (10 ∷ []) (point 0 5)
    (Ok at_corner)
    (seen strict (along false) IsSigned (10 ∷ []) (pos 5)
    (seen strict with_sign IsUnsigned (10 ∷ []) 10 (small strict 10 refl refl refl))) (refl, refl)

vertices : Chain (IsNext HorizontalFirst) (λ w. w.at) 2 (start_of HorizontalFirst) strict (20 ∷ 10 ∷ [])
    (Ok (point 10 0 ∷ point 10 5 ∷ []))
vertices =
    chained strict (IsNext HorizontalFirst) (λ w. w.at) 1 (start_of HorizontalFirst) halfway (20 ∷ []) (10 ∷ [])
    (point 10 5 ∷ []) to_the_east
    (chained strict (IsNext HorizontalFirst) (λ w. w.at) 0 halfway at_corner (10 ∷ []) [] [] to_the_north (refl, refl))

point_list : IsPointList Polygon strict (0 ∷ 2 ∷ 20 ∷ 10 ∷ []) (Ok rectangle)
point_list =
    after strict IsUnsigned (λ n. Then (Known (among 0 list_types n) PointListType) (IsListOf Polygon)) (0 ∷ [])
    (2 ∷ 20 ∷ 10 ∷ []) 0 (Ok rectangle) (small strict 0 refl refl refl)
    (after strict (Known (Some HorizontalFirst) PointListType) (IsListOf Polygon) [] (2 ∷ 20 ∷ 10 ∷ []) HorizontalFirst
    (Ok rectangle) (refl, refl)
    (after strict IsUnsigned
    (λ n. Then (Known (point_count Polygon HorizontalFirst n) PointCount) (AreVertices Polygon HorizontalFirst))
    (2 ∷ []) (20 ∷ 10 ∷ []) 2 (Ok rectangle) (small strict 2 refl refl refl)
    (after strict (Known (Some 2) PointCount) (AreVertices Polygon HorizontalFirst) [] (20 ∷ 10 ∷ []) 2 (Ok rectangle)
    (refl, refl)
    (seen strict (closed Polygon HorizontalFirst) (Chain (IsNext HorizontalFirst) (λ w. w.at) 2 (start_of HorizontalFirst))
    (20 ∷ 10 ∷ []) (point 10 0 ∷ point 10 5 ∷ []) vertices))))

-- an odd number of 1-deltas is no polygon
odd_count : point_count Polygon HorizontalFirst 3 ≡ None
odd_count = refl

-- three columns 10 apart and two rows 20 apart
abbrev array : List Point
array = point 0 0 ∷ point 10 0 ∷ point 20 0 ∷ point 0 20 ∷ point 10 20 ∷ point 20 20 ∷ []

spaced : IsShift AlongX 1 origin strict (10 ∷ []) (Ok (point 10 0))
spaced =
    alone strict (IsSpaceAlong true) (λ by. Known (moved origin by 1) OutOfRange) (10 ∷ []) (space true 10)
    (Ok (point 10 0)) (seen strict (space true) IsUnsigned (10 ∷ []) 10 (small strict 10 refl refl refl)) (refl, refl)

stacked : IsShift AlongY 1 origin strict (20 ∷ []) (Ok (point 0 20))
stacked =
    alone strict (IsSpaceAlong false) (λ by. Known (moved origin by 1) OutOfRange) (20 ∷ []) (space false 20)
    (Ok (point 0 20)) (seen strict (space false) IsUnsigned (20 ∷ []) 20 (small strict 20 refl refl refl)) (refl, refl)

columns : IsColumns AlongX 3 strict (10 ∷ []) (Ok (point 10 0))
columns =
    alone strict (IsShift AlongX 1 origin)
    (λ a. Seen (λ _. a) (Known (lattice_in_range a 3 origin 1) OutOfRange)) (10 ∷ []) (point 10 0) (Ok (point 10 0)) spaced
    (seen strict (λ _. point 10 0) (Known (lattice_in_range (point 10 0) 3 origin 1) OutOfRange) []
    (lattice (point 10 0) 3 origin 1) (refl, refl))

matrix : IsMatrixOf AlongX AlongY (record { columns = 3; rows = 2 }) strict (10 ∷ 20 ∷ []) (Ok (New array))
matrix =
    after strict (IsColumns AlongX 3)
    (λ a. Then (IsShift AlongY 1 origin) (λ b. Seen New (Known (lattice_in_range a 3 b 2) OutOfRange)))
    (10 ∷ []) (20 ∷ []) (point 10 0) (Ok (New array)) columns
    (alone strict (IsShift AlongY 1 origin) (λ b. Seen New (Known (lattice_in_range (point 10 0) 3 b 2) OutOfRange))
    (20 ∷ []) (point 0 20) (Ok (New array)) stacked
    (seen strict New (Known (lattice_in_range (point 10 0) 3 (point 0 20) 2) OutOfRange) [] array (refl, refl)))

repetition : IsRepetition false strict (1 ∷ 1 ∷ 0 ∷ 10 ∷ 20 ∷ []) (Ok (New array))
repetition =
    after strict IsUnsigned (λ n. Then (Known (among 0 kinds n) RepetitionType) (IsKind false)) (1 ∷ [])
    (1 ∷ 0 ∷ 10 ∷ 20 ∷ []) 1 (Ok (New array)) (small strict 1 refl refl refl)
    (after strict (Known (Some (Matrix AlongX AlongY)) RepetitionType) (IsKind false) [] (1 ∷ 0 ∷ 10 ∷ 20 ∷ [])
    (Matrix AlongX AlongY) (Ok (New array)) (refl, refl)
    (after strict IsUnsigned
    (λ d. Then IsUnsigned
    (λ e. Then (Allowed (λ limits. matrix_size limits d e) RepetitionSize) (IsMatrixOf AlongX AlongY)))
    (1 ∷ []) (0 ∷ 10 ∷ 20 ∷ []) 1 (Ok (New array)) (small strict 1 refl refl refl)
    (after strict IsUnsigned
    (λ e. Then (Allowed (λ limits. matrix_size limits 1 e) RepetitionSize) (IsMatrixOf AlongX AlongY)) (0 ∷ [])
    (10 ∷ 20 ∷ []) 0 (Ok (New array)) (small strict 0 refl refl refl)
    (after strict (Allowed (λ limits. matrix_size limits 1 0) RepetitionSize) (IsMatrixOf AlongX AlongY) []
    (10 ∷ 20 ∷ []) (record { columns = 3; rows = 2 }) (Ok (New array)) (refl, refl) matrix))))
