-- Repetitions: the laws of each spelling; lattices in range.
use Rattle.std.proofs.Common.{◌≡◌, ℕ, suc, inl, inr, Bool, true, false, List, [], ◌∷◌, IsSome, IfSome, ◌↔◌, All}
use Rattle.std.proofs.Common.{refl, ap, ◌∙◌, ◌+◌, ◌*◌, arith, if◌then◌else◌}
use Rattle.std.specs.Prelude.{Option, Some, None, nat_le}
use Rattle.std.specs.List.{list_all}
use Rattle.std.proofs.lemmas.List.Elements.{All-cons, All-nil}
use Rattle.std.proofs.lemmas.Bool.{cases_Bool, and_parts}
use Rattle.std.proofs.Common.{leb-true, leb-false}
use Rattle.lvl_profile.specs.Limits.{AreWithin}
use Rattle.lvl_profile.specs.declared.limits.Limits.{Limits}
use Rattle.lvl_grid.specs.declared.point.Point.{Point}
use Rattle.lvl_grid.specs.Turn.{FitsPoint}
use Rattle.lvl_names.specs.Shifts.{lattice, IsLattice, StartsAtZero}
use Rattle.oasis_values.specs.Known.{among, Allowed, Known, Seen}
use Rattle.oasis_values.specs.Numbers.{IsUnsigned}
use Rattle.oasis_values.specs.PointLists.{origin}
use Rattle.oasis_values.specs.Ranges.{is_in_range, is_point_in_range}
use Rattle.oasis_values.specs.Repetitions.{kinds, place_limit, line_size, matrix_size, list_size, moved, space, widened, IsSpace}
use Rattle.oasis_values.specs.Repetitions.{IsShift, lattice_in_range, modal, IsLineOf, IsLine, IsColumns, IsMatrixOf}
use Rattle.oasis_values.specs.Repetitions.{IsMatrix, IsGrid, AreShifts, IsSpreadOf, IsSpread, IsKind, IsRepetition}
use Rattle.oasis_values.specs.inside.Sizes.{IsFew}
use Rattle.oasis_values.specs.Spelling.{Then}
use Rattle.oasis_values.proofs.Codes.{IsCode, gives_code, then_code, chain_code, known_code, allowed_code, seen_code}
use Rattle.oasis_values.proofs.Integers.{unsigned_code}
use Rattle.oasis_values.proofs.Ranges.{range_true, range_fits}
use Rattle.oasis_values.proofs.Values.{g_delta_code}
use Rattle.oasis_values.specs.declared.fault.ValueFault.TheVariants.{RepetitionType, RepetitionSize, ListSize}
use Rattle.oasis_values.specs.declared.fault.ValueFault.TheVariants.{OutOfRange}
use Rattle.oasis_values.specs.declared.fault.ValueFault.TheVariants.{NoModal}
use Rattle.oasis_values.specs.declared.repetition.Kind.{Kind}
use Rattle.oasis_values.specs.declared.repetition.Kind.TheVariants.{Modal, Matrix, Line, List as Listed}
use Rattle.oasis_values.specs.declared.repetition.Repetition.{Repetition}
use Rattle.oasis_values.specs.declared.repetition.Repetition.TheVariants.{New}
use Rattle.oasis_values.specs.declared.repetition.Size.{Size}
use Rattle.oasis_values.specs.declared.shift.Spacing.{Spacing}
use Rattle.oasis_values.specs.declared.shift.Spacing.TheVariants.{AlongX, AlongY, Free}

-- a lattice is in range exactly if it can be kept

point_true : (p : Point) → FitsPoint p → is_point_in_range p ≡ true
point_true p f = let x = range_true p.x f.x_fits in let y = range_true p.y f.y_fits in rw (x, y) refl

point_fits : (p : Point) → is_point_in_range p ≡ true → FitsPoint p
point_fits p e =
    let s = and_parts (is_in_range p.x) (is_in_range p.y) e in
    record { x_fits = range_fits p.x s.0; y_fits = range_fits p.y s.1 }

all_true : (ps : List Point) → All FitsPoint ps → list_all is_point_in_range ps ≡ true
all_true [] h = refl
all_true (p ∷ ps) h =
    let first = point_true p (h 0 origin (omega arith)) in
    let rest = all_true ps (λ k d l. h (suc k) d (omega (arith, l))) in
    rw (first, rest) refl

all_fit : (ps : List Point) → list_all is_point_in_range ps ≡ true → All FitsPoint ps
all_fit [] e = All-nil FitsPoint
all_fit (p ∷ ps) e =
    let s = and_parts (is_point_in_range p) (list_all is_point_in_range ps) e in
    All-cons FitsPoint p ps (point_fits p s.0) (all_fit ps s.1)

pub lattice_is : (a : Point) (m : ℕ) (b : Point) (n : ℕ) (o : Option (List Point)) → IsFew m n
    → (IsSome o ↔ IsLattice a m b n) → IfSome o (λ l. l ≡ lattice a m b n) → o ≡ lattice_in_range a m b n
lattice_is a m b n (Some l) few is same =
    let fit = all_true (lattice a m b n) (is.0 refl).fit in
    ap Some same ∙ rw fit refl
lattice_is a m b n None few is same = elim (cases_Bool (list_all is_point_in_range (lattice a m b n))) [
  | inl e ↦ absurd (let k : false ≡ true = is.1
      (record { columns = few.columns; rows = few.rows; few = few.few; fit = all_fit (lattice a m b n) e }) in cc)
  | inr e ↦ rw e refl
]

pub starts_at_zero : (l said : List Point) → l ≡ origin ∷ said → StartsAtZero l
starts_at_zero l said e = rw e refl

abbrev pub after_origin : List Point → Repetition
after_origin ps = New (origin ∷ ps)

-- the laws

space_code : (s : Spacing) → IsCode (IsSpace s)
space_code AlongX = seen_code (space true) unsigned_code
space_code AlongY = seen_code (space false) unsigned_code
space_code Free = seen_code widened g_delta_code

pub shift_code : (s : Spacing) (grid : ℕ) (p : Point) → IsCode (IsShift s grid p)
shift_code s grid p = then_code (space_code s) (λ by. known_code (moved p by grid) OutOfRange)

pub placed_code : {A B : Type 0} (g : A → B) (o : Option A) → IsCode (Seen g (Known o OutOfRange))
placed_code g o = seen_code g (known_code o OutOfRange)

pub line_of_code : (s : Spacing) (n : ℕ) → IsCode (IsLineOf s n)
line_of_code s n = then_code (shift_code s 1 origin) (λ a. placed_code New (lattice_in_range a n origin 1))

-- wider limits allow as many places
few_grow : {A : Type 0} (x : A) (n : ℕ) (less more : Limits) → AreWithin less more → (y : A)
    → (if nat_le n (place_limit less) then Some x else None) ≡ Some y
    → (if nat_le n (place_limit more) then Some x else None) ≡ Some y
few_grow x n less more within y = go (nat_le n (place_limit less)) (nat_le n (place_limit more)) refl refl
  where
    go : (a b : Bool) → nat_le n (place_limit less) ≡ a → nat_le n (place_limit more) ≡ b
        → (if a then Some x else None) ≡ Some y → (if b then Some x else None) ≡ Some y
    go true true p q e = e
    go true false p q e = absurd (omega (arith, leb-true n _ p, leb-false n _ q, within.placed))
    go false b p q e = (let z : None ≡ Some y = e in cc)

line_grows : (d : ℕ) (less more : Limits) → AreWithin less more → (n : ℕ) → line_size less d ≡ Some n
    → line_size more d ≡ Some n
line_grows d less more within n = few_grow (d + 2) (d + 2) less more within n

matrix_grows : (d e : ℕ) (less more : Limits) → AreWithin less more → (z : Size) → matrix_size less d e ≡ Some z
    → matrix_size more d e ≡ Some z
matrix_grows d e less more within z =
    few_grow (record { columns = d + 2; rows = e + 2 }) ((d + 2) * (e + 2)) less more within z

pub after_line_size_code : (s : Spacing) (d : ℕ) → IsCode (Then (Allowed (λ limits. line_size limits d) RepetitionSize) (IsLineOf s))
after_line_size_code s d = then_code (allowed_code (λ limits. line_size limits d) RepetitionSize (line_grows d)) (line_of_code s)

line_code : (s : Spacing) → IsCode (IsLine s)
line_code s = then_code unsigned_code (after_line_size_code s)

columns_code : (s : Spacing) (n : ℕ) → IsCode (IsColumns s n)
columns_code s n = then_code (shift_code s 1 origin) (λ a. placed_code (λ _. a) (lattice_in_range a n origin 1))

pub after_across_code : (s : Spacing) (z : Size) (a : Point)
    → IsCode (Then (IsShift s 1 origin) (λ b. Seen New (Known (lattice_in_range a z.columns b z.rows) OutOfRange)))
after_across_code s z a =
    then_code (shift_code s 1 origin) (λ b. placed_code New (lattice_in_range a z.columns b z.rows))

pub matrix_of_code : (s t : Spacing) (z : Size) → IsCode (IsMatrixOf s t z)
matrix_of_code s t z = then_code (columns_code s z.columns) (after_across_code t z)

pub after_rows_code : (s t : Spacing) (d e : ℕ)
    → IsCode (Then (Allowed (λ limits. matrix_size limits d e) RepetitionSize) (IsMatrixOf s t))
after_rows_code s t d e =
    then_code (allowed_code (λ limits. matrix_size limits d e) RepetitionSize (matrix_grows d e)) (matrix_of_code s t)

pub after_columns_code : (s t : Spacing) (d : ℕ)
    → IsCode (Then IsUnsigned (λ e. Then (Allowed (λ limits. matrix_size limits d e) RepetitionSize) (IsMatrixOf s t)))
after_columns_code s t d = then_code unsigned_code (after_rows_code s t d)

matrix_code : (s t : Spacing) → IsCode (IsMatrix s t)
matrix_code s t = then_code unsigned_code (after_columns_code s t)

grid_code : (b : Bool) → IsCode (IsGrid b)
grid_code true = unsigned_code
grid_code false = gives_code

pub shifts_code : (s : Spacing) (n grid : ℕ) → IsCode (AreShifts s n grid)
shifts_code s n grid = seen_code after_origin (chain_code (λ p. p) n origin (shift_code s grid))

pub spread_of_code : (s : Spacing) (b : Bool) (n : ℕ) → IsCode (IsSpreadOf s b n)
spread_of_code s b n = then_code (grid_code b) (shifts_code s n)

pub after_list_size_code : (s : Spacing) (b : Bool) (d : ℕ)
    → IsCode (Then (Known (list_size d) ListSize) (IsSpreadOf s b))
after_list_size_code s b d = then_code (known_code (list_size d) ListSize) (spread_of_code s b)

spread_code : (s : Spacing) (b : Bool) → IsCode (IsSpread s b)
spread_code s b = then_code unsigned_code (after_list_size_code s b)

pub kind_code : (has_modal : Bool) (k : Kind) → IsCode (IsKind has_modal k)
kind_code has_modal Modal = known_code (modal has_modal) NoModal
kind_code has_modal (Matrix s t) = matrix_code s t
kind_code has_modal (Line s) = line_code s
kind_code has_modal (Listed s b) = spread_code s b

pub after_kind_code : (has_modal : Bool) (n : ℕ)
    → IsCode (Then (Known (among 0 kinds n) RepetitionType) (IsKind has_modal))
after_kind_code has_modal n = then_code (known_code (among 0 kinds n) RepetitionType) (kind_code has_modal)

pub repetition_code : (has_modal : Bool) → IsCode (IsRepetition has_modal)
repetition_code has_modal = then_code unsigned_code (after_kind_code has_modal)
