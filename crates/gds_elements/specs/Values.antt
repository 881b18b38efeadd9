-- The values that payloads spell (GDSII Stream Format Manual, Release 6, "Data Type Description", XY, STRANS, ANGLE and
-- COLROW).
use Rattle.std.specs.Prelude.{ℕ, zero, suc, ◌-◌, ◌/◌, ◌==◌, ◌&&◌, nat_lt, Bool, ℤ, pos, if◌then◌else◌, List, [], ◌∷◌}
use Rattle.std.specs.Prelude.{length, take, drop, slice_index, slice_index_or, FitsSigned}
use Rattle.std.specs.Int.{w16, w32, from_be_bytes, cast_signed}
use Rattle.std.specs.Str.{bytes_eq}
use Rattle.lvl_grid.specs.declared.point.Point.{Point}
use Rattle.lvl_grid.specs.declared.map.Turn.{Turn}
use Rattle.lvl_grid.specs.declared.map.Turn.TheVariants.{R0, R90, R180, R270}

-- a number of two bytes, the highest first, in two's complement
abbrev pub short : List ℕ → ℤ
short p = cast_signed w16 (from_be_bytes w16 p)

-- a number of four bytes, the highest first, in two's complement
abbrev pub long : List ℕ → ℤ
long p = cast_signed w32 (from_be_bytes w32 p)

-- two bytes as a bit array, the highest bit first
abbrev pub bits : List ℕ → ℕ
bits p = from_be_bytes w16 p

-- a point: x and y, of four bytes each
abbrev pub point : List ℕ → Point
point p = record { x = long (take 4 p); y = long (take 4 (drop 4 p)) }

-- the first n points of a payload, of eight bytes each
abbrev pub points_of : ℕ → List ℕ → List Point
points_of zero p = []
points_of (suc n) p = point (take 8 p) ∷ points_of n (drop 8 p)

-- all points of a payload
abbrev pub points : List ℕ → List Point
points p = points_of (length p / 8) p

-- the point at an index from 0; the origin if there are too few points
abbrev pub nth : List Point → ℕ → Point
nth ps k = slice_index_or ps k (record { x = pos 0; y = pos 0 })

-- a name without the zero byte that may pad it
abbrev pub name : List ℕ → List ℕ
name p = if nat_lt 0 (length p) && (slice_index p (length p - 1) == 0) then take (length p - 1) p else p

-- a number as a natural one; 0 if it is negative
abbrev pub magnitude : ℤ → ℕ
magnitude (pos n) = n
magnitude z = 0

-- the list without its last element
abbrev pub but_last : {A : Type 0} → List A → List A
but_last xs = take (length xs - 1) xs

-- whether a STRANS reflects about the X axis: its highest bit alone is set
abbrev pub flips : List ℕ → Bool
flips p = bits p == 0x8000

-- the eight-byte real 1
abbrev pub one_real : List ℕ
one_real = 0x41 ∷ 0x10 ∷ 0 ∷ 0 ∷ 0 ∷ 0 ∷ 0 ∷ 0 ∷ []

-- the degrees of a turn as an eight-byte real: 0, 90, 180 and 270
abbrev pub degrees : Turn → List ℕ
degrees R0 = 0 ∷ 0 ∷ 0 ∷ 0 ∷ 0 ∷ 0 ∷ 0 ∷ 0 ∷ []
degrees R90 = 0x42 ∷ 0x5A ∷ 0 ∷ 0 ∷ 0 ∷ 0 ∷ 0 ∷ 0 ∷ []
degrees R180 = 0x42 ∷ 0xB4 ∷ 0 ∷ 0 ∷ 0 ∷ 0 ∷ 0 ∷ 0 ∷ []
degrees R270 = 0x43 ∷ 0x10 ∷ 0xE0 ∷ 0 ∷ 0 ∷ 0 ∷ 0 ∷ 0 ∷ []

-- the turn by an angle; none for any other payload
abbrev pub turn : List ℕ → Turn
turn p =
    if bytes_eq p (degrees R90) then R90
    else (if bytes_eq p (degrees R180) then R180 else (if bytes_eq p (degrees R270) then R270 else R0))

-- the number of columns in a COLROW
abbrev pub columns : List ℕ → ℤ
columns p = short (take 2 p)

-- the number of rows in a COLROW
abbrev pub rows : List ℕ → ℤ
rows p = short (drop 2 p)

-- both coordinates fit in 32 signed bits
pub record IsNarrow (p : Point) : Type 0 where
  pub x_fits : FitsSigned w32 p.x
  pub y_fits : FitsSigned w32 p.y
