-- Repetitions (SEMI P39 OASIS 1.0, "Repetition"). Own rules: the greatest numbers of places of a lattice and of a list,
-- and that each shift fits in 64 signed bits.
use Rattle.std.specs.Prelude.{ℕ, ◌+◌, ◌*◌, nat_le, min, Bool, true, false, if◌then◌else◌, List, [], ◌∷◌, Option}
use Rattle.std.specs.Prelude.{Some, None, Ok, pos, ℤ, ◌+ℤ◌, ◌*ℤ◌}
use Rattle.std.specs.List.{list_all}
use Rattle.lvl_grid.specs.declared.point.Point.{Point}
use Rattle.lvl_names.specs.Shifts.{lattice, most_places}
use Rattle.lvl_profile.specs.declared.limits.Limits.{Limits}
use Rattle.oasis_values.specs.Deltas.{to, IsGDelta}
use Rattle.oasis_values.specs.Known.{among, Allowed, Known, Seen}
use Rattle.oasis_values.specs.Numbers.{IsUnsigned}
use Rattle.oasis_values.specs.PointLists.{origin}
use Rattle.oasis_values.specs.Ranges.{in_range, is_in_range, is_point_in_range}
use Rattle.oasis_values.specs.Spelling.{Spelling, Gives, Then, Chain}
use Rattle.oasis_values.specs.declared.fault.ValueFault.TheVariants.{RepetitionType, RepetitionSize, ListSize}
use Rattle.oasis_values.specs.declared.fault.ValueFault.TheVariants.{OutOfRange}
use Rattle.oasis_values.specs.declared.fault.ValueFault.TheVariants.{NoModal}
use Rattle.oasis_values.specs.declared.shift.Far.{Far}
use Rattle.oasis_values.specs.declared.repetition.Kind.{Kind}
use Rattle.oasis_values.specs.declared.repetition.Kind.TheVariants.{Modal, Matrix, Line, List as Listed}
use Rattle.oasis_values.specs.declared.repetition.Repetition.{Repetition}
use Rattle.oasis_values.specs.declared.repetition.Repetition.TheVariants.{Modal as TheModal, New}
use Rattle.oasis_values.specs.declared.repetition.Size.{Size}
use Rattle.oasis_values.specs.declared.shift.Spacing.{Spacing}
use Rattle.oasis_values.specs.declared.shift.Spacing.TheVariants.{AlongX, AlongY, Free}

-- the types of repetitions by their numbers, from 0: how the places lie, and for a list whether its spaces are
-- multiplied by a grid
abbrev pub kinds : List Kind
kinds =
    Modal
    ∷ Matrix AlongX AlongY
    ∷ Line AlongX
    ∷ Line AlongY
    ∷ Listed AlongX false
    ∷ Listed AlongX true
    ∷ Listed AlongY false
    ∷ Listed AlongY true
    ∷ Matrix Free Free
    ∷ Line Free
    ∷ Listed Free false
    ∷ Listed Free true
    ∷ []

-- the greatest number of places of a lattice (own rule)
abbrev pub place_limit : Limits → ℕ
place_limit limits = min limits.placed most_places

-- n + 2 places along a step, for the dimension n; None if there are too many
abbrev pub line_size : Limits → ℕ → Option ℕ
line_size limits n = if nat_le (n + 2) (place_limit limits) then Some (n + 2) else None

-- n + 2 by m + 2 places along two steps; None if there are too many
abbrev pub matrix_size : Limits → ℕ → ℕ → Option Size
matrix_size limits n m =
    if nat_le ((n + 2) * (m + 2)) (place_limit limits) then Some (record { columns = n + 2; rows = m + 2 }) else None

-- the greatest number of places of a list (own rule)
abbrev pub most_listed : ℕ
most_listed = 1048576

-- n + 1 spaces between n + 2 places, for the dimension n; None if there are too many
abbrev pub list_size : ℕ → Option ℕ
list_size n = if nat_le (n + 2) most_listed then Some (n + 1) else None

-- a coordinate moved by `times` times a space; None if it doesn't fit in 64 signed bits
abbrev pub stepped : ℤ → ℤ → ℕ → Option ℤ
stepped before by times = let z = before +ℤ (pos times *ℤ by) in if is_in_range z then Some z else None

-- a point moved by `times` times a space; None if it doesn't fit in 64 signed bits
abbrev pub moved : Point → Far → ℕ → Option Point
moved p by times = in_range (to (p.x +ℤ (pos times *ℤ by.x)) (p.y +ℤ (pos times *ℤ by.y)))

-- a space along x or along y
abbrev pub space : Bool → ℕ → Far
space true far = record { x = pos far; y = pos 0 }
space false far = record { x = pos 0; y = pos far }

-- a g-delta as a space
abbrev pub widened : Point → Far
widened d = record { x = d.x; y = d.y }

-- a space along x or along y: an unsigned integer
abbrev pub IsSpaceAlong : Bool → Spelling Far
IsSpaceAlong along_x = Seen (space along_x) IsUnsigned

-- a space in any direction: a g-delta
abbrev pub IsSpaceFree : Spelling Far
IsSpaceFree = Seen widened IsGDelta

-- a space: an unsigned integer along an axis, or a g-delta
abbrev pub IsSpace : Spacing → Spelling Far
IsSpace AlongX = IsSpaceAlong true
IsSpace AlongY = IsSpaceAlong false
IsSpace Free = IsSpaceFree

-- the next shift: the one before it, moved by a space times the grid
abbrev pub IsShift : Spacing → ℕ → Point → Spelling Point
IsShift spacing grid before = Then (IsSpace spacing) (λ by. Known (moved before by grid) OutOfRange)

-- the lattice of m steps by a and n steps by b, if all its shifts fit in 64 signed bits
abbrev pub lattice_in_range : Point → ℕ → Point → ℕ → Option (List Point)
lattice_in_range a m b n = if list_all is_point_in_range (lattice a m b n) then Some (lattice a m b n) else None

-- the modal repetition, if there is one
abbrev pub modal : Bool → Option Repetition
modal true = Some TheModal
modal false = None

-- type 0: the modal repetition
abbrev pub IsModal : Bool → Spelling Repetition
IsModal has_modal = Known (modal has_modal) NoModal

-- n places along one step
abbrev pub IsLineOf : Spacing → ℕ → Spelling Repetition
IsLineOf spacing n = Then (IsShift spacing 1 origin) (λ a. Seen New (Known (lattice_in_range a n origin 1) OutOfRange))

-- a dimension, and places along one step
abbrev pub IsLine : Spacing → Spelling Repetition
IsLine spacing = Then IsUnsigned (λ d. Then (Allowed (λ limits. line_size limits d) RepetitionSize) (IsLineOf spacing))

-- the first of two steps, whose n places must be in range
abbrev pub IsColumns : Spacing → ℕ → Spelling Point
IsColumns spacing n =
    Then (IsShift spacing 1 origin) (λ a. Seen (λ _. a) (Known (lattice_in_range a n origin 1) OutOfRange))

-- places along two steps
abbrev pub IsMatrixOf : Spacing → Spacing → Size → Spelling Repetition
IsMatrixOf first second s =
    Then (IsColumns first s.columns)
    (λ a. Then (IsShift second 1 origin) (λ b. Seen New (Known (lattice_in_range a s.columns b s.rows) OutOfRange)))

-- two dimensions, which are read before they are tested, and places along two steps
abbrev pub IsMatrix : Spacing → Spacing → Spelling Repetition
IsMatrix first second =
    Then IsUnsigned
    (λ d. Then IsUnsigned (λ e. Then (Allowed (λ limits. matrix_size limits d e) RepetitionSize) (IsMatrixOf first second)))

-- the grid by which spaces are multiplied; 1 if there is none
abbrev pub IsGrid : Bool → Spelling ℕ
IsGrid true = IsUnsigned
IsGrid false = Gives (Ok 1)

-- the zero shift, and n shifts after it
abbrev pub AreShifts : Spacing → ℕ → ℕ → Spelling Repetition
AreShifts spacing n grid = Seen (λ ps. New (origin ∷ ps)) (Chain (IsShift spacing grid) (λ p. p) n origin)

-- a grid if there is one, and n spaces
abbrev pub IsSpreadOf : Spacing → Bool → ℕ → Spelling Repetition
IsSpreadOf spacing gridded n = Then (IsGrid gridded) (AreShifts spacing n)

-- a dimension, and places at successive spaces
abbrev pub IsSpread : Spacing → Bool → Spelling Repetition
IsSpread spacing gridded = Then IsUnsigned (λ d. Then (Known (list_size d) ListSize) (IsSpreadOf spacing gridded))

-- the repetition after its type
abbrev pub IsKind : Bool → Kind → Spelling Repetition
IsKind has_modal Modal = IsModal has_modal
IsKind has_modal (Matrix first second) = IsMatrix first second
IsKind has_modal (Line spacing) = IsLine spacing
IsKind has_modal (Listed spacing gridded) = IsSpread spacing gridded

-- a type, and a repetition of that type
abbrev pub IsRepetition : Bool → Spelling Repetition
IsRepetition has_modal = Then IsUnsigned (λ n. Then (Known (among 0 kinds n) RepetitionType) (IsKind has_modal))
